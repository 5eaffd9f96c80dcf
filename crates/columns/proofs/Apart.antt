-- Distinct items, in one list and in the blocks of one.
use Rattle.std.proofs.Common.{◌≡◌, refl, sym, ap, ◌∙◌, subst, ℕ, zero, suc, Bool, true, false, true≢false, ◌||◌, List, [], ◌∷◌, ◌++◌}
use Rattle.std.proofs.Common.{take, drop, Some, slice_get}
use Rattle.std.proofs.lemmas.List.{take-append-drop}
use Rattle.std.proofs.lemmas.Bool.{or_parts}
use Rattle.std.proofs.lemmas.Option.{same_Some}
use Rattle.semantics.specs.Ids.{OpId, is_same_id}
use Rattle.semantics.proofs.Orders.{ids_from_test}
use Rattle.semantics.specs.Context.{has_item}
use Rattle.columns.specs.Blocks.{AreApart, IsPositionOf, ListBlock, joined}
use Rattle.columns.proofs.InBlock.{dropped, has_at, has_item-append}
use Rattle.columns.proofs.Walked.{lacks_other}
use Rattle.columns.proofs.Changed.{has_in}

-- an item of the first part of different ones is none of the second
pub apart_append : (a : OpId) (xs ys : List OpId) → AreApart (xs ++ ys) → has_item a xs ≡ true → has_item a ys ≡ false
apart_append a [] ys apart has = absurd (true≢false (sym has))
apart_append a (x ∷ xs) ys apart has = at_test (is_same_id a x) refl (apart_append a xs ys apart.1) has
  where
    at_test : (b : Bool) → is_same_id a x ≡ b → (has_item a xs ≡ true → has_item a ys ≡ false) → (b || has_item a xs) ≡ true
        → has_item a ys ≡ false
    at_test true e rest has = ap (λ y. has_item y ys) (ids_from_test a x e)
        ∙ (or_parts (has_item x xs) (has_item x ys) (sym (has_item-append x xs ys) ∙ apart.0)).1
    at_test false e rest has = rest has

pub apart_first : (xs ys : List OpId) → AreApart (xs ++ ys) → AreApart xs
apart_first [] ys apart = tt
apart_first (x ∷ xs) ys apart = (
  (or_parts (has_item x xs) (has_item x ys)
      (sym (has_item-append x xs ys) ∙ apart.0)).0,
  apart_first xs ys apart.1,
)

pub apart_rest : (xs ys : List OpId) → AreApart (xs ++ ys) → AreApart ys
apart_rest [] ys apart = apart
apart_rest (x ∷ xs) ys apart = apart_rest xs ys apart.1

-- two blocks have no item in common
pub apart_blocks : (runs : List ListBlock) (j k : ℕ) (s r : ListBlock) (a : OpId) → AreApart (joined runs) → slice_get runs j ≡ Some s
    → slice_get runs k ≡ Some r → (j ≡ k → ⊥) → has_item a s.items ≡ true → has_item a r.items ≡ false
apart_blocks [] j k s r a apart at is other has = absurd (cc at)
apart_blocks (t ∷ runs) zero zero s r a apart at is other has = absurd (other refl)
apart_blocks (t ∷ runs) zero (suc k) s r a apart at is other has =
    let here : has_item a t.items ≡ true = ap (λ (o : ListBlock). has_item a o.items) (same_Some t s at) ∙ has in
    lacks_other a r.items (λ there. true≢false (sym (has_in runs k r a is there) ∙ apart_append a t.items (joined runs) apart here))
apart_blocks (t ∷ runs) (suc j) zero s r a apart at is other has =
    lacks_other a r.items
    (λ there. true≢false
    (sym (has_in runs j s a at has)
    ∙ apart_append a t.items (joined runs) apart (ap (λ (o : ListBlock). has_item a o.items) (same_Some t r is) ∙ there)))
apart_blocks (t ∷ runs) (suc j) (suc k) s r a apart at is other has = apart_blocks runs j k s r a
    (apart_rest t.items (joined runs) apart) at is (λ e. other (ap suc e)) has

-- the items of one block are different
pub apart_block : (runs : List ListBlock) (k : ℕ) (r : ListBlock) → AreApart (joined runs) → slice_get runs k ≡ Some r → AreApart r.items
apart_block [] k r apart is = absurd (cc is)
apart_block (t ∷ runs) zero r apart is = subst (λ (o : ListBlock). AreApart o.items) (same_Some t r is)
    (apart_first t.items (joined runs) apart)
apart_block (t ∷ runs) (suc k) r apart is = apart_block runs k r (apart_rest t.items (joined runs) apart) is

-- one of different items stands at one position
pub stands_once : (xs : List OpId) (i : ℕ) (a : OpId) → AreApart xs → slice_get xs i ≡ Some a → IsPositionOf a xs (Some i)
stands_once xs i a apart is = record { there = is; first = lacks_other a (take i xs) (λ has. true≢false (sym there ∙ behind has)) }
  where
    there : has_item a (drop i xs) ≡ true
    there = has_at (drop i xs) 0 a (ap (λ ys. slice_get ys 0) (dropped xs i a is))

    behind : has_item a (take i xs) ≡ true → has_item a (drop i xs) ≡ false
    behind has = apart_append a (take i xs) (drop i xs) (subst AreApart (sym (take-append-drop i xs)) apart) has
