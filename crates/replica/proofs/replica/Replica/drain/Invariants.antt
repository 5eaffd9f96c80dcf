use Rattle.replica.specs.Replicas.{replica_of}
use Rattle.replica.proofs.Draining.{IsUnderWay}
use Rattle.replica.proofs.replica.Replica.drain.Given as goal

abbrev pub invariant-loop : goal.invariant-loop
invariant-loop g l = IsUnderWay (replica_of l.fn.self) (g.P.Publish.publication l.fn.publisher) (g.P.Publish.publication l.publisher)
    (replica_of l.self) l.counter
