use Rattle.std.proofs.Common.{◌≡◌, map, ap, ◌∙◌, refl}
use Rattle.semantics.specs.Entries.{lacked_of}
use Rattle.peer_sync.specs.Sending.{without_end}
use Rattle.engine.specs.operation.Ops.{stamped_of}
use Rattle.peer_sync.proofs.SentBack.{answer_back, same_vector}
use Rattle.peer_sync.proofs.SentHistories.{lacked_sent}
use Rattle.peer_sync.proofs.sending.answer.Goals as goal

pub returns-clause-reads_back : goal.returns-clause-reads_back
returns-clause-reads_back g c v form =
    let named : c.in_ok-vector.vector ≡ v =
    same_vector c.in_ok-vector.vector v (without_end c.args.hello.now) (without_end c.args.hello.now) refl
    c.in_ok-vector.ensures form in
    let lacked : map stamped_of c.in_ok-ops.ops.items ≡ lacked_of c.missing.new.self.seen v =
    c.in_ok-ops.ensures.ops ∙ ap (lacked_of c.missing.new.self.seen) named in
    answer_back c.in_ok-ops.ops.items c.as_slice.result.now _ c.in_ok-lines.lines.items c.as_slice.ensures.value
    lacked c.in_ok-lines.ensures.reads_back
    (lacked_sent g.N.EngineName.own g.N.EngineName.table c.missing.new.self.seen v c.in_ok-ops.ops.items c.seen_len-2.ensures.engine
    c.in_ok-ops.ensures.named lacked)
