use Rattle.std.proofs.Common.{ap, sym}
use Rattle.replica.specs.operation.declared.op.Op.{Op}
use Rattle.replica.specs.operation.Ops.{command_of, stamped_of}
use Rattle.replica.specs.Replicas.{replica_of}
use Rattle.session.proofs.Writing.{still_session, wrote}
use Rattle.session.proofs.session.Session.write.Goals as goal

pub invariant_of-self-2 : goal.invariant_of-self-2
invariant_of-self-2 c =
    still_session (replica_of c.self.inside.replica) (replica_of c.make.new.self) (replica_of c.append.new.replica)
    (command_of c.deref.result.now) (command_of c.in_ok-command.command) (stamped_of c.in_ok-op.op) c.in_ok-op.ensures.same
    (ap command_of c.deref.ensures) c.in_ok-op.ensures.made c.append.ensures c.self.inside.own c.self.invariant

pub returns-clause-made : goal.returns-clause-made
returns-clause-made c =
    let w = wrote (replica_of c.self.inside.replica) (replica_of c.make.new.self) (replica_of c.append.new.replica)
    (command_of c.deref.result.now) (command_of c.in_ok-command.command) (stamped_of c.in_ok-op.op) c.in_ok-op.ensures.same
    (ap command_of c.deref.ensures) c.in_ok-op.ensures.made c.append.ensures c.args.self.now (command_of c.args.command) c.self.view_is
    (ap command_of c.in_ok-command.ensures) in
    (stamped_of c.in_ok-op.op, w.0, sym (ap (λ (o : Op). o.id) c.deref-2.ensures), w.1)
