use Rattle.std.proofs.Common.{◌∙◌, sym, ap}
use Rattle.semantics.specs.Replica.{Replica}
use Rattle.replica.specs.operation.declared.op.Op.{Op}
use Rattle.replica.specs.operation.Ops.{command_of, stamped_of}
use Rattle.replica.specs.Replicas.{replica_of}
use Rattle.session.proofs.Replaying.{own_record, same_id}
use Rattle.session.proofs.Writing.{still_session, wrote}
use Rattle.session.proofs.session.Session.remake.Goals as goal

pub invariant_of-self-2 : goal.invariant_of-self-2
invariant_of-self-2 c =
    still_session (replica_of c.self.inside.replica) (replica_of c.make.new.self) (replica_of c.append.new.replica)
    (command_of c.deref.result.now) (command_of c.args.command) (stamped_of c.in_ok-op.op) c.in_ok-op.ensures.same
    (ap command_of c.deref.ensures) c.in_ok-op.ensures.made c.append.ensures c.self.inside.own c.self.invariant

pub returns-clause-ok : goal.returns-clause-ok
returns-clause-ok c =
    let w = wrote (replica_of c.self.inside.replica) (replica_of c.make.new.self) (replica_of c.append.new.replica)
    (command_of c.deref.result.now) (command_of c.args.command) (stamped_of c.in_ok-op.op) c.in_ok-op.ensures.same
    (ap command_of c.deref.ensures) c.in_ok-op.ensures.made c.append.ensures c.args.self.now (command_of c.args.command) c.self.view_is
    (λ i. command_of c.args.command) in
    own_record c.args.self.now.entries c.append.new.replica.document.entries _ (command_of c.args.command) (stamped_of c.in_ok-op.op)
    c.args.id (ap (λ (r : Replica). r.entries) w.1)
    (sym (ap (λ (o : Op). o.id) c.deref-2.ensures) ∙ same_id c.deref-2.result.now.id c.args.id (sym c.ne.ensures ∙ c.if-ne.false))
