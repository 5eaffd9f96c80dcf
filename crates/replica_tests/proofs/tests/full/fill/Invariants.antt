use Rattle.semantics.specs.Entries.{IsAbove}
use Rattle.replica_tests.proofs.tests.full.fill.Given as goal

abbrev pub invariant-loop-counter : goal.invariant-loop-counter
invariant-loop-counter g l = IsAbove 0 l.serial l.replica.document.entries
