use Rattle.std.proofs.Common.{◌≡◌, ◌<◌, ◌∙◌, ℕ, List, ap, sym, subst, length}
use Rattle.std.specs.List.{All, insert}
use Rattle.std.proofs.lemmas.List.Edits.{insert_end}
use Rattle.std.proofs.lemmas.List.Elements.{All-push}
use Rattle.parts_tests.proofs.tests.of_version.columns.Goals as goal

at_the_end : (width : ℕ) (ids new : List (ℕ × ℕ)) (n : ℕ) (id : ℕ × ℕ) → new ≡ insert ids n id → n ≡ length ids
    → All (λ id. id.1 < width) ids → id.1 < width → All (λ id. id.1 < width) new
at_the_end width ids new n id e long within lt =
    subst (All (λ (id : ℕ × ℕ). id.1 < width)) (sym (e ∙ ap (λ k. insert ids k id) long ∙ insert_end ids id))
    (All-push (λ (id : ℕ × ℕ). id.1 < width) ids id within lt)

pub loop-counter-preserved : goal.loop-counter-preserved
loop-counter-preserved c =
    at_the_end c.args.width c.reserve_one.new.self.ids c.insert.new.self.ids c.len-end.result _ c.insert.ensures.ids c.len-end.ensures
    (subst (All (λ (id : ℕ × ℕ). id.1 < c.args.width)) (sym (c.in_ok-reserve_one.ensures.same)) c.loop-counter.invariant)
    c.if-index-width.false
