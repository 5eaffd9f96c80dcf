use Rattle.std.proofs.Common.{ap, sym, ◌∙◌, ◌≡◌, ◌++◌, ◌∷◌, [], ℕ, zero, suc, List, take, slice_get, Some, add-one}
use Rattle.semantics.specs.Ids.{OpId}
use Rattle.cursor.specs.declared.tag.Tag.{Tag}
use Rattle.columns.proofs.tag_list.TagList.copy.Goals as goal

-- the first entries, and the next one
next : (xs : List (OpId × Tag)) (k : ℕ) (x : OpId × Tag) → slice_get xs k ≡ Some x → take (suc k) xs ≡ take k xs ++ x ∷ []
next [] k x e = cc
next (y ∷ xs) zero x e = let same : y ≡ x = cc in ap (λ z. z ∷ []) same
next (y ∷ xs) (suc k) x e = ap (λ zs. y ∷ zs) (next xs k x e)

pub loop-position-preserved : goal.loop-position-preserved
loop-position-preserved c =
    let copied : OpId × Tag = (c.at-id.result.0, c.at-id.result.1.now) in
    c.in_ok-push.ensures.items ∙ ap (λ xs. xs ++ copied ∷ []) c.loop-position.invariant
    ∙ sym (next c.args.self.now.entries c.loop-position.position copied c.at-id.ensures)
    ∙ ap (λ n. take n c.args.self.now.entries) (sym (add-one c.loop-position.position))
