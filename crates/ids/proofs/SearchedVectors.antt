-- What a search in a vector finds, and a vector with one more replica at the end.
use Rattle.std.proofs.Common.{◌≡◌, ◌≢◌, ℕ, zero, suc, ◌<◌, ◌≤◌, ◌==◌, [], ◌∷◌, ◌++◌, length, drop, ◌&&◌, get_or, Result, Ok, Err}
use Rattle.std.proofs.Common.{Less, Greater, false, inl, inr, refl, sym, ap, ◌∙◌, arith, tests}
use Rattle.std.specs.List.Sorted.{IsBinarySearchResult}
use Rattle.std.specs.Ordering.{nat_cmp, ordering_index}
use Rattle.std.specs.FinMap.{nat_cmp-IsAntisymmetric}
use Rattle.std.specs.Result.{MatchResult}
use Rattle.std.proofs.lemmas.Bool.{and_left, cases_lt, false_from_ne_true, leb-true, le-leb, ne_eqb, cond-false}
use Rattle.std.proofs.lemmas.List.{length-append}
use Rattle.std.proofs.lemmas.Cmp.{ranked}
use Rattle.ids.specs.Ids.{OpId}
use Rattle.ids.specs.Vectors.{Vector, at, covers, is_at_most, most_named, AreAbove, AreBelow, IsCanonical, IsNamed}
use Rattle.ids.proofs.CanonicalVectors.{at_first, at_later}

-- what stands behind is above
pub above_at : (p : ℕ) (v : Vector) → AreAbove p v → (k : ℕ) (d : OpId) → k < length v → p < (get_or v k d).replica
above_at p [] h k d l = absurd (omega arith)
above_at p (a ∷ v) h zero d l = h.0
above_at p (a ∷ v) h (suc k) d l = above_at p v h.1 k d (omega arith)

-- the counter of a replica stands beside it
at_index : (v : Vector) → IsCanonical v → (k : ℕ) (d : OpId) → k < length v → at v (get_or v k d).replica ≡ (get_or v k d).counter
at_index [] h k d l = absurd (omega arith)
at_index (a ∷ v) h zero d l = at_first a v h.1
at_index (a ∷ v) h (suc k) d l =
    at_later a v (get_or v k d).replica (above_at a.replica v h.1 k d (omega arith)) ∙ at_index v h.2 k d (omega arith)

-- a replica that isn't named
absent : (v : Vector) (p : ℕ) → ((k : ℕ) (d : OpId) → k < length v → (get_or v k d).replica ≢ p) → at v p ≡ 0
absent [] p h = refl
absent (a ∷ v) p h = cond-false (a.replica == p) _ _ (ne_eqb a.replica p (h zero a (omega arith)))
    ∙ absent v p (λ k d l. h (suc k) d (omega arith))

rising : (v : Vector) → IsCanonical v → (i j : ℕ) (d : OpId) → i ≤ j → j < length v → (get_or v i d).replica ≤ (get_or v j d).replica
rising [] h i j d le l = absurd (omega arith)
rising (a ∷ v) h zero zero d le l = omega arith
rising (a ∷ v) h zero (suc j) d le l =
    let k : a.replica < (get_or v j d).replica = above_at a.replica v h.1 j d (omega arith) in omega arith
rising (a ∷ v) h (suc i) zero d le l = absurd (omega arith)
rising (a ∷ v) h (suc i) (suc j) d le l = rising v h.2 i j d (omega arith) (omega arith)

higher : (p a b : ℕ) → a ≤ b → ordering_index (nat_cmp a p) ≤ ordering_index (nat_cmp b p)
higher p a b le = grind (arith, tests)

-- what stands at a position is what is named for its replica
pub named_there : (v : Vector) → IsCanonical v → (k : ℕ) (d : OpId) (p : ℕ) → k < length v → (get_or v k d).replica ≡ p
    → at v p ≡ (get_or v k d).counter
named_there v h k d p l e = ap (at v) (sym e) ∙ at_index v h k d l

-- between the replicas below and those above there is none
pub none_between : (v : Vector) → IsCanonical v → (k p : ℕ) → ((j : ℕ) (d : OpId) → j < k → j < length v → (get_or v j d).replica < p)
    → ((d : OpId) → k < length v → p < (get_or v k d).replica) → at v p ≡ 0
none_between v h k p below above = absent v p (λ j d l e. elim (cases_lt j k) [
  | inl before ↦ (let m : (get_or v j d).replica < p = below j d before l in omega (arith, e, m))
  | inr behind ↦ (let m : p < (get_or v k d).replica = above d (omega arith) in
      let n : (get_or v k d).replica ≤ (get_or v j d).replica = rising v h k j d behind l in omega (arith, e, m, n))
])

-- where a search by replica ends
pub searched_place : (v : Vector) (p : ℕ) → IsCanonical v → (r : Result ℕ ℕ) → IsBinarySearchResult (λ (a : OpId). nat_cmp a.replica p) v r
    → MatchResult r (λ i. (d : OpId) → (get_or v i d).replica ≡ p)
    (λ i. ((j : ℕ) (d : OpId) → j < i → (get_or v j d).replica < p) × ((d : OpId) → i < length v → p < (get_or v i d).replica))
searched_place v p h (Ok i) found = λ d. nat_cmp-IsAntisymmetric (get_or v i d).replica p (found d)
searched_place v p h (Err i) found =
    let parted = found (λ a b d le l. higher p (get_or v a d).replica (get_or v b d).replica (rising v h a b d le l)) in (
      λ j d l. ranked (get_or v j d).replica p Less (sym (parted.0 j d (omega arith) l)),
      λ d l. ranked (get_or v i d).replica p Greater (sym (parted.1 i d (omega arith) l)),
    )

-- a search by replica finds what the vector names for it
pub searched_vector : (v : Vector) (p : ℕ) → IsCanonical v → (r : Result ℕ ℕ) → IsBinarySearchResult (λ (a : OpId). nat_cmp a.replica p) v r
    → MatchResult r (λ i. i < length v → (d : OpId) → at v p ≡ (get_or v i d).counter) (λ i. at v p ≡ 0)
searched_vector v p h (Ok i) found = λ l d. named_there v h i d p l (searched_place v p h (Ok i) found d)
searched_vector v p h (Err i) found =
    let place = searched_place v p h (Err i) found in none_between v h i p (λ j d l k. place.0 j d l) place.1

-- each counter of a canonical vector is above 0
pub counted_at : (v : Vector) → IsCanonical v → (k : ℕ) (d : OpId) → k < length v → 0 < (get_or v k d).counter
counted_at [] h k d l = absurd (omega arith)
counted_at (a ∷ v) h zero d l = positive a.counter h.0
  where
    positive : (n : ℕ) → n ≢ 0 → 0 < n
    positive zero ne = absurd (ne refl)
    positive (suc n) ne = omega arith
counted_at (a ∷ v) h (suc k) d l = counted_at v h.2 k d (omega arith)

-- a pair is of a replica below those behind it
pub before_next : (v : Vector) → IsCanonical v → (i j : ℕ) (d e : OpId) → i < j → j < length v
    → (get_or v i d).replica < (get_or v j e).replica
before_next [] h i j d e lt l = absurd (omega arith)
before_next (a ∷ v) h zero zero d e lt l = absurd (omega arith)
before_next (a ∷ v) h zero (suc j) d e lt l = above_at a.replica v h.1 j e (omega arith)
before_next (a ∷ v) h (suc i) zero d e lt l = absurd (omega arith)
before_next (a ∷ v) h (suc i) (suc j) d e lt l = before_next v h.2 i j d e (omega arith) (omega arith)

-- ---- vectors side by side

-- the first pair of what is left decides, or the others do
pub first_fails : (u v : Vector) (n : ℕ) (a : OpId) (rest : Vector) → drop n u ≡ a ∷ rest → at v a.replica < a.counter
    → is_at_most (drop n u) v ≡ false
first_fails u v n a rest is less = ap (λ w. is_at_most w v) is
    ∙ and_left (covers v a) (is_at_most rest v)
    (false_from_ne_true (covers v a) (λ e. omega (arith, leb-true a.counter (at v a.replica) e, less)))

pub first_holds : (u v : Vector) (n : ℕ) (a : OpId) (rest : Vector) → drop n u ≡ a ∷ rest → a.counter ≤ at v a.replica
    → is_at_most rest v ≡ is_at_most (drop n u) v
first_holds u v n a rest is le =
    sym (ap (λ w. is_at_most w v) is ∙ ap (λ b. b && is_at_most rest v) (le-leb a.counter (at v a.replica) le))

-- ---- one more behind

above_behind : (p : ℕ) (v : Vector) (a : OpId) → AreAbove p v → p < a.replica → AreAbove p (v ++ a ∷ [])
above_behind p [] a h l = (l, tt)
above_behind p (b ∷ v) a h l = (h.0, above_behind p v a h.1 l)

canonical_behind : (v : Vector) (a : OpId) → IsCanonical v → AreBelow a.replica v → 0 < a.counter → IsCanonical (v ++ a ∷ [])
canonical_behind [] a h below l = ((λ e. omega (arith, e, l)), tt, tt)
canonical_behind (b ∷ v) a h below l = (h.0, above_behind b.replica v a h.1 below.0, canonical_behind v a h.2 below.1 l)

pub named_behind : (v : Vector) (a : OpId) → IsNamed v → AreBelow a.replica v → 0 < a.counter → length v < most_named
    → IsNamed (v ++ a ∷ [])
named_behind v a h below counted room = record {
  canonical = canonical_behind v a h.canonical below counted;
  few = omega (arith, length-append v (a ∷ []), room);
}

-- what is below a number is below a greater one
pub below_more : (p q : ℕ) (v : Vector) → AreBelow p v → p ≤ q → AreBelow q v
below_more p q [] h le = tt
below_more p q (a ∷ v) h le = (omega (arith, le, h.0), below_more p q v h.1 le)

-- and so is one more behind
pub below_behind : (p : ℕ) (v : Vector) (a : OpId) → AreBelow p v → a.replica < p → AreBelow p (v ++ a ∷ [])
below_behind p [] a h l = (l, tt)
below_behind p (b ∷ v) a h l = (h.0, below_behind p v a h.1 l)
