use Rattle.semantics.specs.Entries.{IsAbove}
use Rattle.replica_tests.proofs.tests.playing.play.Given as goal

abbrev pub invariant-loop-turn : goal.invariant-loop-turn
invariant-loop-turn g l = IsAbove 0 l.serial l.replica.document.entries
