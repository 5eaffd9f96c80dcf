use Rattle.std.proofs.Common.{◌≡◌, ◌∙◌, ap, ℕ, List, sym, length, take, drop, ◌-◌, rules}
use Rattle.std.proofs.Math.Seq.{take-length}
use Rattle.std.proofs.lemmas.List.{length-drop}
use Rattle.columns.specs.Blocks.{IsFloor, ListBlock}
use Rattle.columns.proofs.InBlock.{block_cut}
use Rattle.columns.proofs.block.Block.split_off.Goals as goal

-- a slice to the end
rest_of : {X : Type 0} (xs : List X) (i : ℕ) → take (length xs - i) (drop i xs) ≡ drop i xs
rest_of xs i = ap (λ n. take n (drop i xs)) (sym (length-drop i xs)) ∙ take-length (drop i xs)

pub overflow_sub-self : goal.overflow_sub-self
overflow_sub-self c =
    let d = c.self.inside in
    let b = c.back.inside in
    let at = c.args.at in
    let ids : b.ids.items ≡ drop at d.ids.items = ap (λ (r : ListBlock). r.items) c.back.view_is ∙ c.in_ok-back.ensures.items
    ∙ rest_of c.deref.result.now at ∙ ap (drop at) c.deref.ensures.value in
    let flags : b.flags.items ≡ drop at d.flags.items = ap (λ (r : ListBlock). r.flags) c.back.view_is ∙ c.in_ok-back.ensures.flags
    ∙ rest_of c.deref-2.result.now at ∙ ap (drop at) c.deref-2.ensures.value in
    (block_cut d.ids.items d.flags.items d.shown d.floor at b.shown b.floor d.floor c.self.invariant
    (rw (sym ids, sym flags) c.back.invariant) (search rules)).0

pub invariant_of-self : goal.invariant_of-self
invariant_of-self c =
    let d = c.self.inside in
    let b = c.back.inside in
    let at = c.args.at in
    let ids : b.ids.items ≡ drop at d.ids.items = ap (λ (r : ListBlock). r.items) c.back.view_is ∙ c.in_ok-back.ensures.items
    ∙ rest_of c.deref.result.now at ∙ ap (drop at) c.deref.ensures.value in
    let flags : b.flags.items ≡ drop at d.flags.items = ap (λ (r : ListBlock). r.flags) c.back.view_is ∙ c.in_ok-back.ensures.flags
    ∙ rest_of c.deref-2.result.now at ∙ ap (drop at) c.deref-2.ensures.value in
    let bounded : IsFloor c.floor_of-self-inside.result (take at d.ids.items) = search rules in
    rw (c.truncate.ensures.items, c.truncate-2.ensures.items)
    (block_cut d.ids.items d.flags.items d.shown d.floor at b.shown b.floor c.floor_of-self-inside.result c.self.invariant
    (rw (sym ids, sym flags) c.back.invariant) bounded).1
