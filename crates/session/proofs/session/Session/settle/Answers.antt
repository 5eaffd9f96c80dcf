use Rattle.std.proofs.Common.{◌∙◌, ap, subst}
use Rattle.semantics.specs.Replica.{Replica}
use Rattle.semantics.specs.WorldHistory.{BeginsWith}
use Rattle.replica.specs.Replicas.{replica_of}
use Rattle.session.proofs.Keeping.{drained_on, grown_by, own_stays}
use Rattle.session.proofs.session.Session.settle.Goals as goal

pub invariant_of-self : goal.invariant_of-self
invariant_of-self c =
    let turns = c.drain.ensures.partly in
    drained_on c.self.inside.own turns.0 (replica_of c.self.inside.replica) (replica_of c.drain.new.replica) c.drain.ensures.running
    turns.1 c.self.invariant

pub returns-clause-grows : goal.returns-clause-grows
returns-clause-grows c =
    let turns = c.drain.ensures.partly in
    subst (λ (r : Replica). BeginsWith c.drain.new.replica.document.entries r.entries) c.self.view_is
    (grown_by turns.0 (replica_of c.self.inside.replica) (replica_of c.drain.new.replica) c.drain.ensures.running turns.1)

pub returns-clause-own : goal.returns-clause-own
returns-clause-own c =
    let turns = c.drain.ensures.partly in
    own_stays turns.0 (replica_of c.self.inside.replica) (replica_of c.drain.new.replica) c.drain.ensures.running turns.1
    ∙ ap (λ (r : Replica). r.own) c.self.view_is
