use Rattle.std.proofs.Common.{◌≡◌, sym, ◌∙◌, ap}
use Rattle.published.specs.Beginnings.{Beginning}
use Rattle.published.proofs.Adding.{adds_moves}
use Rattle.published.proofs.Prefixes.{added_to}
use Rattle.published.proofs.book.Point.extend.Goals as goal

pub compare_exchange-found-requires : goal.compare_exchange-found-requires
compare_exchange-found-requires c =
    let h = c.requires.head in
    let offer = c.plain-offer.ensures in
    let pen = c.no_pen-pen.ensures in
    let b : c.self.inside.seen.book ≡ c.args.self.now.book = ap (λ (p : Beginning). p.book) c.self.view_is in (
      ap (λ w. w.tracked) h,
      b ∙ sym (ap (λ w. w.book) h),
      pen.0 ∙ (b ∙ sym (ap (λ w. w.book) h)),
      offer.0,
      rw (ap (λ w. w.key) h, pen.1, offer.1, offer.3)
          (adds_moves c.self.inside.seen.log c.args.entry.now c.self.inside.count (sym c.self.invariant)),
    )

pub returns-clause-added : goal.returns-clause-added
returns-clause-added c =
    let x = c.compare_exchange-found.ensures in
    added_to _ c.self.inside.seen.log c.compare_exchange-found.new.seen.log c.args.self.now.log c.plain-offer.result.ask
    c.args.entry.now _ (ap (λ (p : Beginning). p.log) c.self.view_is) c.plain-offer.ensures.1 x.6 x.7
