-- Reading a list after a write to it.
use Rattle.std.proofs.Common.{◌≡◌, ◌≢◌, ℕ, zero, suc, ◌<◌, List, [], ◌∷◌, length, get_or, set, Some, refl, sym, ap, arith}
use Rattle.std.specs.Prelude.{slice_get}

pub get_same : {X : Type 0} (xs : List X) (i : ℕ) (y : X) → i < length xs → slice_get (set xs i y) i ≡ Some y
get_same [] i y h = absurd (omega arith)
get_same (x ∷ xs) zero y h = refl
get_same (x ∷ xs) (suc i) y h = get_same xs i y (omega arith)

pub get_other : {X : Type 0} (xs : List X) (i : ℕ) (y : X) (j : ℕ) → j ≢ i → slice_get (set xs i y) j ≡ slice_get xs j
get_other [] i y j n = refl
get_other (x ∷ xs) zero y zero n = absurd (n refl)
get_other (x ∷ xs) zero y (suc j) n = refl
get_other (x ∷ xs) (suc i) y zero n = refl
get_other (x ∷ xs) (suc i) y (suc j) n = get_other xs i y j (λ e. n (omega arith))

pub get_read : {X : Type 0} (xs : List X) (i : ℕ) (x : X) → i < length xs → x ≡ get_or xs i x → slice_get xs i ≡ Some x
get_read [] i x h e = absurd (omega arith)
get_read (y ∷ xs) zero x h e = ap Some (sym e)
get_read (y ∷ xs) (suc i) x h e = get_read xs i x (omega arith) e

pub get_inside : {X : Type 0} (xs : List X) (i : ℕ) (x : X) → slice_get xs i ≡ Some x → i < length xs
get_inside [] i x e = cc
get_inside (y ∷ xs) zero x e = omega arith
get_inside (y ∷ xs) (suc i) x e = let h = get_inside xs i x e in omega arith
