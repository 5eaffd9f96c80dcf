use Rattle.std.proofs.Common.{◌≡◌}
use Rattle.columns.specs.Prefix.{first_bytes}
use Rattle.columns.proofs.prefix.complete.Given as goal

abbrev pub invariant-loop-position : goal.invariant-loop-position
invariant-loop-position l = l.prefix ≡ first_bytes l.position l.name
