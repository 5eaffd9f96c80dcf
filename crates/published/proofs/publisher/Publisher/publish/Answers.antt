use Rattle.std.proofs.Common.{ap, drop}
use Rattle.published.proofs.Shows.{flushed, all_pending}
use Rattle.published.proofs.publisher.Publisher.publish.Goals as goal

pub show_all-requires : goal.show_all-requires
show_all-requires g c =
    all_pending _ _ _ _ _ _ _ c.self.invariant c.flush.new.writer.desk.shown.value
    (drop c.flush.new.writer.behind c.flush.new.writer.log.items) (ap (λ p. p.value) c.flush.ensures.shown)
    (flushed _ _ _ c.flush.ensures.pending (c.flush.ensures.flushed c.if-not-flush.false))
