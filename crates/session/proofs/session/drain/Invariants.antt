-- The drain has taken some turns, each of which takes an operation that waits.
use Rattle.std.proofs.Common.{length}
use Rattle.replica.specs.Replicas.{replica_of}
use Rattle.session.proofs.Draining.{IsDraining}
use Rattle.session.proofs.session.drain.Given as goal

abbrev pub decreases-loop-op : goal.decreases-loop-op
decreases-loop-op l = length l.replica.waiting

abbrev pub invariant-loop-op : goal.invariant-loop-op
invariant-loop-op l = IsDraining (replica_of l.fn.replica) (replica_of l.replica)
