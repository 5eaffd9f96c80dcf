use Rattle.std.proofs.Common.{◌<◌}
use Rattle.std.specs.List.{All}
use Rattle.parts_tests.proofs.tests.of_version.columns.Given as goal

abbrev pub invariant-loop-counter : goal.invariant-loop-counter
invariant-loop-counter l = All (λ id. id.1 < l.width) l.columns.ids
