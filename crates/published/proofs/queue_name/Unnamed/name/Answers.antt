-- The exchange names the queue.
use Rattle.std.proofs.Common.{◌≡◌, sym, ◌∙◌, ap}
use Rattle.published.proofs.Adding.{names_moves}
use Rattle.published.proofs.queue_name.Unnamed.name.Goals as goal

pub compare_exchange-found-requires : goal.compare_exchange-found-requires
compare_exchange-found-requires g c =
    let h = c.args.self.word_is in
    let offer = c.plain-offer.ensures in
    let pen = c.no_pen-pen.ensures in
    let b : c.args.self.seen.book ≡ c.args.self.word.book = c.args.self.book ∙ sym (ap (λ w. w.book) h) in (
      ap (λ w. w.tracked) h,
      b,
      pen.0 ∙ b,
      offer.0,
      rw (ap (λ w. w.key) h, pen.1, offer.1, offer.3) (names_moves c.args.self.seen.log c.args.seat.now.table_id),
    )
