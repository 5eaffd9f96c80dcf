use Rattle.std.proofs.Common.{◌-◌}
use Rattle.semantics.specs.Ids.{id_cmp}
use Rattle.columns.specs.Rank.{keys_of}
use Rattle.columns.proofs.Sought.{IsSought}
use Rattle.columns.proofs.numbers.find_before.Given as goal

abbrev pub invariant-loop-low : goal.invariant-loop-low
invariant-loop-low l = IsSought id_cmp l.id (keys_of l.entries.items) l.low l.high

abbrev pub decreases-loop-low : goal.decreases-loop-low
decreases-loop-low l = l.high - l.low
