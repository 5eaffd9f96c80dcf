use Rattle.std.proofs.Common.{length}
use Rattle.replica.specs.contracts.replica.Replica.{the_view}
use Rattle.replica.proofs.Dropping.{IsDropping}
use Rattle.replica.proofs.replica.Replica.prepare.Given as goal

abbrev pub invariant-loop-turn : goal.invariant-loop-turn
invariant-loop-turn l = IsDropping (the_view l.initial.self-inside) (the_view l.self-inside)

abbrev pub decreases-loop-turn : goal.decreases-loop-turn
decreases-loop-turn l = length l.self-inside.inbox
