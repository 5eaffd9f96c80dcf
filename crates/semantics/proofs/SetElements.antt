-- An element of a list after one was set, and after one was put at the end.
use Rattle.std.proofs.Common.{◌≡◌, ◌⊎◌, inl, inr, ℕ, zero, suc, List, [], ◌∷◌, Some, refl, sym, ap, ◌∙◌, slice_get, slice_set}
use Rattle.std.proofs.lemmas.Bool.{cases_eq}

pub get-set_same : {X : Type 0} (xs : List X) (i : ℕ) (x y : X) → slice_get xs i ≡ Some x → slice_get (slice_set xs i y) i ≡ Some y
get-set_same [] i x y h = cc
get-set_same (z ∷ xs) zero x y h = refl
get-set_same (z ∷ xs) (suc i) x y h = get-set_same xs i x y h

pub get-set_other : {X : Type 0} (xs : List X) (i j : ℕ) (y : X) → (j ≡ i → ⊥) → slice_get (slice_set xs i y) j ≡ slice_get xs j
get-set_other [] i j y h = refl
get-set_other (z ∷ xs) zero zero y h = absurd (h refl)
get-set_other (z ∷ xs) zero (suc j) y h = refl
get-set_other (z ∷ xs) (suc i) zero y h = refl
get-set_other (z ∷ xs) (suc i) (suc j) y h = get-set_other xs i j y (λ e. h (ap suc e))

-- what stands there was set, or it stood there before
pub get-set_cases : {X : Type 0} (xs : List X) (i j : ℕ) (x y z : X) → slice_get xs i ≡ Some x → slice_get (slice_set xs i y) j ≡ Some z
    → ((j ≡ i) × (z ≡ y)) ⊎ (slice_get xs j ≡ Some z)
get-set_cases xs i j x y z h k = at_cases (cases_eq j i)
  where
    at_cases : ((j ≡ i) ⊎ (j ≡ i → ⊥)) → ((j ≡ i) × (z ≡ y)) ⊎ (slice_get xs j ≡ Some z)
    at_cases (inl e) =
        let there = get-set_same xs i x y h in
        let same : slice_get (slice_set xs i y) j ≡ Some y = ap (slice_get (slice_set xs i y)) e ∙ there in
        inl (e, cc)
    at_cases (inr n) = inr (sym (get-set_other xs i j y n) ∙ k)
