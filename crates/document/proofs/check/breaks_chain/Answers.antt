use Rattle.std.proofs.Common.{not, ap, ◌∙◌, ◌==◌}
use Rattle.semantics.specs.Vectors.{at}
use Rattle.oplog.specs.operation.Ops.{stamped_of}
use Rattle.document.proofs.ReceivedFaults.{chain-tested}
use Rattle.document.proofs.check.breaks_chain.Goals as goal

pub counter_of-requires : goal.counter_of-requires
counter_of-requires c = rw c.ids.ensures.ids c.ids.ensures.canonical

pub returns : goal.returns
returns c H is =
    (λ i. not (c.at.ensures i == (c.counter_of.ensures ∙ ap (λ v. at v c.args.op.now.id.replica) c.ids.ensures.ids) i))
    ∙ chain-tested H (stamped_of c.args.op.now) c.args.applied.now.ids is
