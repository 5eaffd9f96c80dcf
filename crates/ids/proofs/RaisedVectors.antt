-- One more id in a vector.
use Rattle.std.proofs.Common.{◌≡◌, ◌≢◌, ℕ, zero, suc, ◌<◌, ◌≤◌, max, Bool, true, false, cond, ◌==◌, [], ◌∷◌, length, get_or, set, Result}
use Rattle.std.proofs.Common.{Ok, Err, refl, sym, ap, ◌∙◌, arith, nat_lt}
use Rattle.std.specs.List.{insert}
use Rattle.std.specs.List.Sorted.{IsBinarySearchResult}
use Rattle.std.specs.Ordering.{nat_cmp}
use Rattle.std.specs.Result.{MatchResult}
use Rattle.std.proofs.Math.Nat.{le-max_left}
use Rattle.std.proofs.lemmas.Bool.{ltb-true, ltb-false, lt-ltb, le-ltb, eqb-true, eqb-false, eq-eqb, ne_eqb}
use Rattle.ids.specs.Ids.{OpId, id_at}
use Rattle.ids.specs.Vectors.{Vector, at, greatest, raise, AreAbove, IsCanonical}
use Rattle.ids.proofs.SearchedVectors.{above_at, searched_place}

max_swap : (b e : Bool) (c d m : ℕ)
    → cond b (max c (cond e (max d m) m)) (cond e (max d m) m) ≡ cond e (max d (cond b (max c m) m)) (cond b (max c m) m)
max_swap true true c d m = grind arith
max_swap true false c d m = refl
max_swap false true c d m = refl
max_swap false false c d m = refl

max_join : (b : Bool) (c d m : ℕ) → cond b (max (max c d) m) m ≡ cond b (max c (cond b (max d m) m)) (cond b (max d m) m)
max_join true c d m = grind arith
max_join false c d m = refl

-- a raised vector names what it named and the id
pub at-raise : (a : OpId) (v : Vector) (p : ℕ) → at (raise a v) p ≡ at (a ∷ v) p
at-raise a [] p = refl
at-raise a (b ∷ v) p = at_tests (nat_lt a.replica b.replica) (a.replica == b.replica) refl (at-raise a v p)
  where
    at_tests : (t e : Bool) → (a.replica == b.replica) ≡ e → at (raise a v) p ≡ at (a ∷ v) p
        → at (cond t (a ∷ b ∷ v) (cond e (id_at (max a.counter b.counter) b.replica ∷ v) (b ∷ raise a v))) p ≡ at (a ∷ b ∷ v) p
    at_tests true e is rest = refl
    at_tests false true is rest =
        max_join (b.replica == p) a.counter b.counter (at v p)
        ∙ ap (λ q. cond (q == p) (max a.counter (at (b ∷ v) p)) (at (b ∷ v) p)) (sym (eqb-true a.replica b.replica is))
    at_tests false false is rest = ap (λ n. cond (b.replica == p) (max b.counter n) n) rest
        ∙ max_swap (b.replica == p) (a.replica == p) b.counter a.counter (at v p)

max_past : (c d m : ℕ) → max d (max c m) ≡ max c (max d m)
max_past c d m = grind arith

max_first : (c d m : ℕ) → max (max c d) m ≡ max c (max d m)
max_first c d m = grind arith

pub greatest-raise : (a : OpId) (v : Vector) → greatest (raise a v) ≡ greatest (a ∷ v)
greatest-raise a [] = refl
greatest-raise a (b ∷ v) = at_tests (nat_lt a.replica b.replica) (a.replica == b.replica) (greatest-raise a v)
  where
    at_tests : (t e : Bool) → greatest (raise a v) ≡ greatest (a ∷ v)
        → greatest (cond t (a ∷ b ∷ v) (cond e (id_at (max a.counter b.counter) b.replica ∷ v) (b ∷ raise a v))) ≡ greatest (a ∷ b ∷ v)
    at_tests true e rest = refl
    at_tests false true rest = max_first a.counter b.counter (greatest v)
    at_tests false false rest = ap (max b.counter) rest ∙ max_past a.counter b.counter (greatest v)

above_raise : (q : ℕ) (a : OpId) (v : Vector) → q < a.replica → AreAbove q v → AreAbove q (raise a v)
above_raise q a [] l h = (l, tt)
above_raise q a (b ∷ v) l h = at_tests (nat_lt a.replica b.replica) (a.replica == b.replica) (above_raise q a v l h.1)
  where
    at_tests : (t e : Bool) → AreAbove q (raise a v)
        → AreAbove q (cond t (a ∷ b ∷ v) (cond e (id_at (max a.counter b.counter) b.replica ∷ v) (b ∷ raise a v)))
    at_tests true e rest = (l, h)
    at_tests false true rest = h
    at_tests false false rest = (h.0, rest)

above_more : (p q : ℕ) (v : Vector) → p < q → AreAbove q v → AreAbove p v
above_more p q [] l h = tt
above_more p q (a ∷ v) l h = ((let k : q < a.replica = h.0 in omega arith), above_more p q v l h.1)

lt_where_other : (m k : ℕ) → m ≤ k → (k ≡ m → ⊥) → m < k
lt_where_other m k le ne = omega arith

-- a canonical vector stays canonical
pub canonical_raise : (a : OpId) (v : Vector) → a.counter ≢ 0 → IsCanonical v → IsCanonical (raise a v)
canonical_raise a [] n h = (n, tt, tt)
canonical_raise a (b ∷ v) n h = at_tests (nat_lt a.replica b.replica) refl (a.replica == b.replica) refl (canonical_raise a v n h.2)
  where
    at_tests : (t : Bool) → nat_lt a.replica b.replica ≡ t → (e : Bool) → (a.replica == b.replica) ≡ e → IsCanonical (raise a v)
        → IsCanonical (cond t (a ∷ b ∷ v) (cond e (id_at (max a.counter b.counter) b.replica ∷ v) (b ∷ raise a v)))
    at_tests true is e also rest = (
      n,
      (
        ltb-true a.replica b.replica is,
        above_more a.replica b.replica v
            (ltb-true a.replica b.replica is) h.1,
      ),
      h,
    )
    at_tests false is true also rest = (λ z. n (let m = le-max_left a.counter b.counter in omega (arith, m, z)), h.1, h.2)
    at_tests false is false also rest = (
      h.0,
      above_raise b.replica a v
          (lt_where_other b.replica a.replica (ltb-false a.replica b.replica is) (eqb-false a.replica b.replica also)) h.1,
      rest,
    )

-- a raised vector names at most one replica more
pub length-raise : (a : OpId) (v : Vector) → length (raise a v) ≤ suc (length v)
length-raise a [] = omega arith
length-raise a (b ∷ v) = at_tests (nat_lt a.replica b.replica) (a.replica == b.replica) (length-raise a v)
  where
    at_tests : (t e : Bool) → length (raise a v) ≤ suc (length v)
        → length (cond t (a ∷ b ∷ v) (cond e (id_at (max a.counter b.counter) b.replica ∷ v) (b ∷ raise a v))) ≤ suc (suc (length v))
    at_tests true e rest = omega arith
    at_tests false true rest = omega arith
    at_tests false false rest = omega (arith, rest)

-- ---- where it is raised

-- where its replica stands, the greater counter does
pub raise_there : (a : OpId) (v : Vector) → IsCanonical v → (i : ℕ) (d : OpId) → i < length v → (get_or v i d).replica ≡ a.replica
    → raise a v ≡ set v i (id_at (max a.counter (get_or v i d).counter) (get_or v i d).replica)
raise_there a [] h i d l e = absurd (omega arith)
raise_there a (b ∷ v) h zero d l e =
    rw (le-ltb a.replica b.replica (omega (arith, e)), eq-eqb a.replica b.replica (sym e)) refl
raise_there a (b ∷ v) h (suc i) d l e =
    let above : b.replica < (get_or v i d).replica = above_at b.replica v h.1 i d (omega arith) in
    rw (le-ltb a.replica b.replica (omega (arith, above, e)), ne_eqb a.replica b.replica (λ s. omega (arith, s, above, e)))
    (ap (λ w. b ∷ w) (raise_there a v h.2 i d (omega arith) e))

-- where it stands nowhere, the id goes between those below it and those above
pub raise_between : (a : OpId) (v : Vector) (i : ℕ) → i ≤ length v → ((j : ℕ) (d : OpId) → j < i → (get_or v j d).replica < a.replica)
    → ((d : OpId) → i < length v → a.replica < (get_or v i d).replica) → raise a v ≡ insert v i a
raise_between a [] zero l below above = refl
raise_between a [] (suc i) l below above = absurd (omega arith)
raise_between a (b ∷ v) zero l below above = rw (lt-ltb a.replica b.replica (above b (omega arith))) refl
raise_between a (b ∷ v) (suc i) l below above =
    let first : b.replica < a.replica = below zero b (omega arith) in
    rw (le-ltb a.replica b.replica (omega (arith, first)), ne_eqb a.replica b.replica (λ s. omega (arith, s, first)))
    (ap (λ w. b ∷ w) (raise_between a v i (omega arith) (λ j d k. below (suc j) d (omega arith)) (λ d k. above d (omega arith))))

-- so a search by replica says what raising does
pub raise_searched : (a : OpId) (v : Vector) → IsCanonical v → (r : Result ℕ ℕ)
    → IsBinarySearchResult (λ (b : OpId). nat_cmp b.replica a.replica) v r
    → MatchResult r
    (λ i. i < length v → (d : OpId) → raise a v ≡ set v i (id_at (max a.counter (get_or v i d).counter) (get_or v i d).replica))
    (λ i. i ≤ length v → raise a v ≡ insert v i a)
raise_searched a v h (Ok i) found = λ l d. raise_there a v h i d l (searched_place v a.replica h (Ok i) found d)
raise_searched a v h (Err i) found =
    let place = searched_place v a.replica h (Err i) found in λ l. raise_between a v i l place.0 place.1

-- the pair with the greater counter in its place
pub raise_in_place : (a : OpId) (v : Vector) (i : ℕ) (b : OpId) (c : ℕ) → IsCanonical v
    → IsBinarySearchResult (λ (x : OpId). nat_cmp x.replica a.replica) v (Ok i) → i < length v → b ≡ get_or v i b
    → c ≡ max a.counter b.counter
    → set v i (record { counter = c; replica = b.replica }) ≡ raise a v
raise_in_place a v i b c h found l at most =
    (λ j. set v i (record { counter = (most ∙ ap (λ (x : OpId). max a.counter x.counter) at) j; replica = (at j).replica }))
    ∙ sym (raise_searched a v h (Ok i) found l b)
