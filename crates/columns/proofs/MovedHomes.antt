-- Items that get another home.
use Rattle.std.proofs.Common.{◌≡◌, refl, sym, ap, ◌∙◌, ℕ, ◌+◌, Bool, true, false, cond, ◌||◌, List, [], ◌∷◌, take, Some, is_some, slice_get}
use Rattle.std.specs.FinMap.{find, put}
use Rattle.std.specs.FinMap.Entries.{find-put}
use Rattle.semantics.specs.Ids.{OpId, id_cmp, is_same_id}
use Rattle.semantics.proofs.Orders.{id_total}
use Rattle.semantics.specs.Context.{has_item}
use Rattle.columns.specs.Blocks.{AreMoved}
use Rattle.columns.proofs.InBlock.{has_at, has_item-append, taken}

module _ (items : List OpId) (n i : ℕ) (x : OpId) (old new : List (OpId × ℕ)) (is : slice_get items i ≡ Some x)
    (moved : AreMoved (take i items) n old new) where
  -- the next one has a home
  pub next_homed : ((a : OpId) → has_item a items ≡ true → is_some (find id_cmp a old) ≡ true) → is_some (find id_cmp x new) ≡ true
  next_homed homed = ap is_some (moved x) ∙ either (has_item x (take i items)) (homed x (has_at items i x is))
    where
      either : (t : Bool) → is_some (find id_cmp x old) ≡ true → is_some (cond t (Some n) (find id_cmp x old)) ≡ true
      either true has = refl
      either false has = has

  -- and gets another one
  pub next_moved : AreMoved (take (i + 1) items) n old (put id_cmp x n new)
  next_moved a =
      find-put id_cmp id_total a x n new
      ∙ ap (λ o. cond (is_same_id a x) (Some n) o) (moved a)
      ∙ both (is_same_id a x) (has_item a (take i items))
      ∙ ap (λ t. cond t (Some n) (find id_cmp a old))
      (sym (ap (has_item a) (taken items i x is) ∙ has_item-append a (take i items) (x ∷ [])))
    where
      both : (s t : Bool) → cond s (Some n) (cond t (Some n) (find id_cmp a old)) ≡ cond (t || (s || false)) (Some n) (find id_cmp a old)
      both true true = refl
      both true false = refl
      both false true = refl
      both false false = refl
