use Rattle.std.proofs.Common.{rules, subst}
use Rattle.std.proofs.lemmas.Result.{on_ok_weaker}
use Rattle.wire.specs.Sent.{AreReplicaNumbers, IsReplicaNumber}
use Rattle.wire.proofs.ReadBack.{typed_sent}
use Rattle.wire.proofs.writing.put_op.Goals as goal

pub returns-clause-sent : goal.returns-clause-sent
returns-clause-sent c =
    let own : IsReplicaNumber c.args.op.now.id.replica = search rules in
    let typed : AreReplicaNumbers c.args.op.now.deps = subst AreReplicaNumbers c.ids.ensures.ids c.in_ok-put_vector.ensures.typed in
    on_ok_weaker c.end_array.result (λ _ sent. typed_sent c.args.op.now c.ids.ensures.named own typed
    c.in_ok-put_place.ensures.typed c.in_ok-put_mutation.ensures.within sent) c.end_array.ensures.ok
