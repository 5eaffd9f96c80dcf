-- Vectors in ascending order of replica, with one more pair at the end.
use Rattle.std.proofs.Common.{◌≡◌, ◌≢◌, ℕ, ◌<◌, [], ◌∷◌, ◌++◌, Ok, Err, Result, refl, append_assoc}
use Rattle.std.proofs.lemmas.Bool.{lt-ltb, ne_eqb}
use Rattle.ids.specs.declared.refusal.Refusal.{Refusal}
use Rattle.ids.specs.Vectors.{AreBelow}
use Rattle.semantics.specs.Ids.{OpId}
use Rattle.semantics.specs.Vectors.{AreAbove, IsCanonical, Vector, at}
use Rattle.serde_json.specs.declared.value.Value.{Value}
use Rattle.serde_json.specs.View.{view, items_view}
use Rattle.std.proofs.Common.{List}
use Rattle.wire.specs.Deltas.{IsRising, change_form, changes_above, next_change_of}
use Rattle.wire.specs.Forms.{and_then}

above_behind : (p : ℕ) (v : Vector) (a : OpId) → AreAbove p v → p < a.replica → AreAbove p (v ++ a ∷ [])
above_behind p [] a h l = (l, tt)
above_behind p (b ∷ v) a h l = (h.0, above_behind p v a h.1 l)

pub rising_behind : (v : Vector) (a : OpId) → IsRising v → AreBelow a.replica v → IsRising (v ++ a ∷ [])
rising_behind [] a h below = (tt, tt)
rising_behind (b ∷ v) a h below = (above_behind b.replica v a h.0 below.0, rising_behind v a h.1 below.1)

above_there : (p : ℕ) (v w : Vector) (a : OpId) → AreAbove p (v ++ a ∷ w) → p < a.replica
above_there p [] w a h = h.0
above_there p (b ∷ v) w a h = above_there p v w a h.1

-- what comes before a pair of a canonical vector is below it
pub below_there : (v w : Vector) (a : OpId) → IsCanonical (v ++ a ∷ w) → AreBelow a.replica v
below_there [] w a h = tt
below_there (b ∷ v) w a h = (above_there b.replica v w a h.1, below_there v w a h.2)

pub counted_there : (v w : Vector) (a : OpId) → IsCanonical (v ++ a ∷ w) → a.counter ≢ 0
counted_there [] w a h = h.0
counted_there (b ∷ v) w a h = counted_there v w a h.2

-- ---- changes that are read one by one

pub next_change : (base : Vector) (p : ℕ) (a : OpId) → p < a.replica → at base a.replica ≢ a.counter → next_change_of base p a ≡ Ok a
next_change base p a l n = rw (lt-ltb p a.replica l, ne_eqb (at base a.replica) a.counter n) refl

-- nothing comes before
pub none_before : (r : Result Vector Refusal) → and_then (λ d. Ok ([] ++ d)) r ≡ r
none_before (Ok d) = refl
none_before (Err why) = refl

-- one change more
pub after_change : (base done : Vector) (a : OpId) (last : ℕ) (x : Value) (xs : List Value) → change_form (view x) ≡ Ok a
    → next_change_of base last a ≡ Ok a
    → and_then (λ d. Ok (done ++ d)) (changes_above base last (items_view (x ∷ xs)))
    ≡ and_then (λ d. Ok ((done ++ a ∷ []) ++ d)) (changes_above base a.replica (items_view xs))
after_change base done a last x xs e n = rw (e, n) (joined (changes_above base a.replica (items_view xs)))
  where
    joined : (r : Result Vector Refusal)
        → and_then (λ d. Ok (done ++ d)) (and_then (λ d. Ok (a ∷ d)) r) ≡ and_then (λ d. Ok ((done ++ a ∷ []) ++ d)) r
    joined (Ok d) = simp append_assoc
    joined (Err why) = refl
