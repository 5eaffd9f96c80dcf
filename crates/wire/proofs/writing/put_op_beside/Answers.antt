use Rattle.std.proofs.Common.{rules, subst}
use Rattle.std.proofs.lemmas.Result.{on_ok_weaker}
use Rattle.semantics.specs.Vectors.{Vector}
use Rattle.wire.specs.Deltas.{delta}
use Rattle.wire.specs.Sent.{AreReplicaNumbers, IsReplicaNumber}
use Rattle.wire.proofs.SentDeltas.{typed_sent_beside}
use Rattle.wire.proofs.writing.put_op_beside.Goals as goal

pub returns-clause-sent : goal.returns-clause-sent
returns-clause-sent c =
    let base : Vector = c.args.base.now in
    let own : IsReplicaNumber c.args.op.now.id.replica = search rules in
    let typed : AreReplicaNumbers (delta base c.args.op.now.deps) =
    subst (λ (v : Vector). AreReplicaNumbers (delta base v)) c.ids.ensures.ids c.in_ok-put_differences.ensures.typed in
    on_ok_weaker c.end_array.result (λ _ sent. typed_sent_beside base c.args.op.now c.ids.ensures.named own typed
    c.in_ok-put_place.ensures.typed c.in_ok-put_mutation.ensures.within sent) c.end_array.ensures.ok
