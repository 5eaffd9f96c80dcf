use Rattle.std.proofs.Common.{◌≡◌, rules, subst}
use Rattle.semantics.specs.Delivery.{answer_to, deliver}
use Rattle.inbox.specs.operation.declared.op.Op.{Op}
use Rattle.replica.specs.Replicas.{replica_of}
use Rattle.inbox.specs.operation.Ops.{stamped_of}
use Rattle.replica.specs.Handlers.{outcome_of}
use Rattle.replica.proofs.Received.{delivered}
use Rattle.replica.proofs.handler.deliver.Goals as goal

pub returns-clause-delivered : goal.returns-clause-delivered
returns-clause-delivered c other =
    let same : c.in_ok-clone.field-0 ≡ c.args.op.now = search rules in
    let r = replica_of c.args.replica.now in
    subst (λ (o : Op). (answer_to r (stamped_of o) ≡ outcome_of c.deliver.result)
    × (replica_of c.deliver.new.self ≡ deliver r (stamped_of o))) same
    (delivered r
    (replica_of c.deliver.new.self) (stamped_of c.in_ok-clone.field-0) c.deliver.result c.deliver.ensures.answer c.deliver.ensures.delivered
    c.deliver.ensures.same other)
