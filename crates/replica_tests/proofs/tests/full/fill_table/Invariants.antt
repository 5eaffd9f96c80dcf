use Rattle.semantics.specs.Entries.{IsAbove}
use Rattle.replica_tests.proofs.tests.full.fill_table.Given as goal

abbrev pub invariant-loop-number : goal.invariant-loop-number
invariant-loop-number g l = IsAbove 0 l.serial l.replica.document.entries
