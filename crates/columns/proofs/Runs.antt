-- The items of blocks, before a position and from it on.
use Rattle.std.proofs.Common.{◌≡◌, refl, sym, ap, ◌∙◌, ℕ, zero, suc, ◌+◌, ◌<◌, ◌≤◌, false, ◌||◌, List, [], ◌∷◌, ◌++◌, length, drop, take}
use Rattle.std.proofs.Common.{Some, slice_get, arith, append_assoc}
use Rattle.std.proofs.lemmas.List.{append-nil, drop_all, take-append-drop}
use Rattle.std.proofs.lemmas.Option.{slice_get_within, same_Some}
use Rattle.semantics.specs.Ids.{OpId}
use Rattle.semantics.specs.Context.{has_item}
use Rattle.columns.specs.Blocks.{ListBlock, items_at, items_before, items_from, joined}
use Rattle.columns.proofs.InBlock.{has_item-append}

-- the items of the block at an index
pub items_here : (runs : List ListBlock) (k : ℕ) (r : ListBlock) → slice_get runs k ≡ Some r → items_at runs k ≡ r.items
items_here [] k r is = absurd (cc is)
items_here (s ∷ runs) zero r is = ap (λ (o : ListBlock). o.items) (same_Some s r is)
items_here (s ∷ runs) (suc k) r is = items_here runs k r is

-- from the first position on there are all
pub from_first : (runs : List ListBlock) → items_from runs 0 0 ≡ joined runs
from_first [] = refl
from_first (r ∷ runs) = refl

-- what stands before a position, and from it on, is all there is
pub split_at : (runs : List ListBlock) (k i : ℕ) → joined runs ≡ items_before runs k i ++ items_from runs k i
split_at [] k i = refl
split_at (r ∷ runs) zero i = ap (λ xs. xs ++ joined runs) (sym (take-append-drop i r.items))
    ∙ append_assoc (take i r.items) (drop i r.items) (joined runs)
split_at (r ∷ runs) (suc k) i = ap (λ xs. r.items ++ xs) (split_at runs k i)
    ∙ sym (append_assoc r.items (items_before runs k i) (items_from runs k i))

-- before the first there is none
pub before_first : (runs : List ListBlock) → items_before runs 0 0 ≡ []
before_first [] = refl
before_first (r ∷ runs) = refl

-- past the last block
pub before_end : (runs : List ListBlock) (k i : ℕ) → length runs ≤ k → items_before runs k i ≡ joined runs
before_end [] k i past = refl
before_end (r ∷ runs) zero i past = absurd (omega (arith, past))
before_end (r ∷ runs) (suc k) i past = ap (λ xs. r.items ++ xs) (before_end runs k i (omega (arith, past)))

pub from_end : (runs : List ListBlock) (k i : ℕ) → length runs ≤ k → items_from runs k i ≡ []
from_end [] k i past = refl
from_end (r ∷ runs) zero i past = absurd (omega (arith, past))
from_end (r ∷ runs) (suc k) i past = from_end runs k i (omega (arith, past))

-- by the block's own items: those before it, then what stands in it
before_by : (runs : List ListBlock) (k i : ℕ) → k < length runs → items_before runs k i ≡ items_before runs k 0 ++ take i (items_at runs k)
before_by [] k i inside = absurd (omega (arith, inside))
before_by (r ∷ runs) zero i inside = refl
before_by (r ∷ runs) (suc k) i inside =
    ap (λ xs. r.items ++ xs) (before_by runs k i (omega (arith, inside)))
    ∙ sym (append_assoc r.items (items_before runs k 0) (take i (items_at runs k)))

before_after : (runs : List ListBlock) (k : ℕ) → k < length runs → items_before runs (suc k) 0 ≡ items_before runs k 0 ++ items_at runs k
before_after [] k inside = absurd (omega (arith, inside))
before_after (r ∷ []) zero inside = append-nil r.items
before_after (r ∷ s ∷ runs) zero inside = append-nil r.items
before_after (r ∷ runs) (suc k) inside =
    ap (λ xs. r.items ++ xs) (before_after runs k (omega (arith, inside)))
    ∙ sym (append_assoc r.items (items_before runs k 0) (items_at runs k))

from_by : (runs : List ListBlock) (k i : ℕ) → k < length runs → items_from runs k i ≡ drop i (items_at runs k) ++ items_from runs (suc k) 0
from_by [] k i inside = absurd (omega (arith, inside))
from_by (r ∷ runs) zero i inside = ap (λ xs. drop i r.items ++ xs) (sym (from_first runs))
from_by (r ∷ runs) (suc k) i inside = from_by runs k i (omega (arith, inside))

module _ (runs : List ListBlock) (k : ℕ) (r : ListBlock) (is : slice_get runs k ≡ Some r) where
  inside : k < length runs
  inside = slice_get_within runs k r is

  here : items_at runs k ≡ r.items
  here = items_here runs k r is

  pub before_in : (i : ℕ) → items_before runs k i ≡ items_before runs k 0 ++ take i r.items
  before_in i = before_by runs k i inside ∙ ap (λ xs. items_before runs k 0 ++ take i xs) here

  pub before_next : items_before runs (k + 1) 0 ≡ items_before runs k 0 ++ r.items
  before_next =
      let next : k + 1 ≡ suc k = omega arith in
      ap (λ j. items_before runs j 0) next ∙ before_after runs k inside ∙ ap (λ xs. items_before runs k 0 ++ xs) here

  pub from_in : (i : ℕ) → items_from runs k i ≡ drop i r.items ++ items_from runs (k + 1) 0
  from_in i =
      let next : suc k ≡ k + 1 = omega arith in
      from_by runs k i inside ∙ (λ t. drop i (here t) ++ items_from runs (next t) 0)

  -- the next position is the same as the end of the block
  pub from_past : (i : ℕ) → length r.items ≤ i → items_from runs k i ≡ items_from runs (k + 1) 0
  from_past i past = from_in i ∙ ap (λ xs. xs ++ items_from runs (k + 1) 0) (drop_all i r.items past)

  -- an item that isn't in the block, nor before it
  pub lacks_block : (a : OpId) → has_item a (items_before runs k 0) ≡ false → has_item a r.items ≡ false
      → has_item a (items_before runs (k + 1) 0) ≡ false
  lacks_block a before within = ap (has_item a) before_next ∙ has_item-append a (items_before runs k 0) r.items
      ∙ (λ t. before t || within t)
