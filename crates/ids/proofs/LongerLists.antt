-- A list with more behind it.
use Rattle.std.proofs.Common.{◌≡◌, ◌⊎◌, inl, inr, ℕ, zero, suc, List, [], ◌∷◌, ◌++◌, length, Some, refl, ap, slice_get}

pub get-append : {X : Type 0} (xs ys : List X) (i : ℕ) (x : X) → slice_get xs i ≡ Some x → slice_get (xs ++ ys) i ≡ Some x
get-append [] ys i x h = cc
get-append (z ∷ xs) ys zero x h = h
get-append (z ∷ xs) ys (suc i) x h = get-append xs ys i x h

pub get-append_last : {X : Type 0} (xs : List X) (y : X) → slice_get (xs ++ y ∷ []) (length xs) ≡ Some y
get-append_last [] y = refl
get-append_last (z ∷ xs) y = get-append_last xs y

-- what stands there stood there before, or it is the new last one
pub get-append_cases : {X : Type 0} (xs : List X) (i : ℕ) (y z : X) → slice_get (xs ++ y ∷ []) i ≡ Some z
    → (slice_get xs i ≡ Some z) ⊎ ((i ≡ length xs) × (z ≡ y))
get-append_cases [] zero y z h = inr (refl, cc)
get-append_cases [] (suc i) y z h = inl h
get-append_cases (x ∷ xs) zero y z h = inl h
get-append_cases (x ∷ xs) (suc i) y z h = elim (get-append_cases xs i y z h) [ inl a ↦ inl a | inr b ↦ inr (ap suc b.0, b.1) ]
