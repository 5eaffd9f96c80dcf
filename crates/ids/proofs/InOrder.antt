-- Numbers put in order: nothing is lost, and distinct numbers are in ascending order.
use Rattle.std.proofs.Common.{◌≡◌, ℕ, suc, ◌+◌, ◌<◌, ◌≤◌, Bool, true, false, not, ◌||◌, eqb, ltb, IsTrue, IsFalse, ◌⊎◌, inl, inr, List, []}
use Rattle.std.proofs.Common.{◌∷◌, length, refl, ◌∙◌, ap, arith}
use Rattle.std.specs.Prelude.{⊤}
use Rattle.std.specs.List.Sorted.{IsPermutation, IsSorted}
use Rattle.std.specs.Ordering.{nat_cmp}
use Rattle.std.proofs.lemmas.Bool.{cases_Bool, both_ways, not-true, ltb-true, ltb-false, eq-eqb, eqb-true, eqb-false, ne_eqb, and_parts}
use Rattle.std.proofs.lemmas.Bool.{or_parts, or_left, or_right, false_from_ne_true}
use Rattle.ids.specs.Members.{is_member, AreDistinct, are_distinct, put_number, put_all, in_order}
use Rattle.ids.proofs.Rising.{AreFrom, Rises, count, count-permutation, rises-sorted, same_rising}

-- p is below each of these
abbrev pub IsBelowAll : ℕ → List ℕ → Type 0
IsBelowAll p [] = ⊤
IsBelowAll p (q ∷ ps) = (p < q) × IsBelowAll p ps

-- each number is below all that come after it
abbrev pub AreRising : List ℕ → Type 0
AreRising [] = ⊤
AreRising (p ∷ ps) = IsBelowAll p ps × AreRising ps

-- ---- distinct numbers

-- the test of distinct numbers says so
pub distinct_from_test : (ps : List ℕ) → IsTrue (are_distinct ps) → AreDistinct ps
distinct_from_test [] h = tt
distinct_from_test (p ∷ ps) h =
    let parts = and_parts (not (is_member ps p)) (are_distinct ps) h in
    (λ m. both_ways (is_member ps p) (not-true _ parts.0) m, distinct_from_test ps parts.1)

-- ---- one number put in its place

swap_tests : (a b c : Bool) → a || (b || c) ≡ b || (a || c)
swap_tests true true c = refl
swap_tests true false c = refl
swap_tests false b c = refl

pub is_member-put_number : (p : ℕ) (ps : List ℕ) (q : ℕ) → is_member (put_number p ps) q ≡ (eqb p q || is_member ps q)
is_member-put_number p [] q = refl
is_member-put_number p (r ∷ ps) q = by_test (cases_Bool (ltb p r)) (is_member-put_number p ps q)
  where
    by_test : (ltb p r ≡ true) ⊎ (ltb p r ≡ false) → is_member (put_number p ps) q ≡ (eqb p q || is_member ps q)
        → is_member (put_number p (r ∷ ps)) q ≡ (eqb p q || is_member (r ∷ ps) q)
    by_test (inl e) h = rw e refl
    by_test (inr e) h = rw e (ap (λ x. eqb r q || x) h ∙ swap_tests (eqb r q) (eqb p q) (is_member ps q))

pub length-put_number : (p : ℕ) (ps : List ℕ) → length (put_number p ps) ≡ suc (length ps)
length-put_number p [] = refl
length-put_number p (r ∷ ps) = by_test (cases_Bool (ltb p r)) (length-put_number p ps)
  where
    by_test : (ltb p r ≡ true) ⊎ (ltb p r ≡ false) → length (put_number p ps) ≡ suc (length ps)
        → length (put_number p (r ∷ ps)) ≡ suc (suc (length ps))
    by_test (inl e) h = rw e refl
    by_test (inr e) h = rw e (ap suc h)

-- ---- rising numbers

pub IsBelowAll-trans : (p q : ℕ) (ps : List ℕ) → p < q → IsBelowAll q ps → IsBelowAll p ps
IsBelowAll-trans p q [] l h = tt
IsBelowAll-trans p q (r ∷ ps) l h = let m : q < r = h.0 in (omega arith, IsBelowAll-trans p q ps l h.1)

pub IsBelowAll-put_number : (q p : ℕ) (ps : List ℕ) → q < p → IsBelowAll q ps → IsBelowAll q (put_number p ps)
IsBelowAll-put_number q p [] l h = (l, tt)
IsBelowAll-put_number q p (r ∷ ps) l h = by_test (cases_Bool (ltb p r)) (IsBelowAll-put_number q p ps l h.1)
  where
    by_test : (ltb p r ≡ true) ⊎ (ltb p r ≡ false) → IsBelowAll q (put_number p ps) → IsBelowAll q (put_number p (r ∷ ps))
    by_test (inl e) m = rw e (l, h)
    by_test (inr e) m = rw e (h.0, m)

-- a number that isn't one of these keeps them rising
pub AreRising-put_number : (p : ℕ) (ps : List ℕ) → IsFalse (is_member ps p) → AreRising ps → AreRising (put_number p ps)
AreRising-put_number p [] a h = (tt, tt)
AreRising-put_number p (r ∷ ps) a h = by_test (cases_Bool (ltb p r))
    (AreRising-put_number p ps (or_parts (eqb r p) (is_member ps p) a).1 h.1)
  where
    by_test : (ltb p r ≡ true) ⊎ (ltb p r ≡ false) → AreRising (put_number p ps) → AreRising (put_number p (r ∷ ps))
    by_test (inl e) m = let below : p < r = ltb-true p r e in rw e ((below, IsBelowAll-trans p r ps below h.0), h)
    by_test (inr e) m =
        let above : r ≤ p = ltb-false p r e in
        let other : r ≡ p → ⊥ = eqb-false r p (or_parts (eqb r p) (is_member ps p) a).0 in
        rw e (IsBelowAll-put_number r p ps (omega arith) h.0, m)

below_all_is_no_member : (p : ℕ) (ps : List ℕ) → IsBelowAll p ps → IsFalse (is_member ps p)
below_all_is_no_member p [] h = refl
below_all_is_no_member p (r ∷ ps) h = let l : p < r = h.0 in rw (ne_eqb r p (omega arith)) (below_all_is_no_member p ps h.1)

-- rising numbers are different
pub distinct_from_rising : (ps : List ℕ) → AreRising ps → AreDistinct ps
distinct_from_rising [] h = tt
distinct_from_rising (p ∷ ps) h = (both_ways (is_member ps p) (below_all_is_no_member p ps h.0), distinct_from_rising ps h.1)

-- ---- all numbers put in order

or_again : (a b c : Bool) → (a || b) || c ≡ b || (a || c)
or_again true true c = refl
or_again true false c = refl
or_again false b c = refl

pub is_member-put_all : (table ps : List ℕ) (q : ℕ) → is_member (put_all table ps) q ≡ (is_member table q || is_member ps q)
is_member-put_all table [] q = or_nothing (is_member table q)
  where
    or_nothing : (a : Bool) → a ≡ a || false
    or_nothing true = refl
    or_nothing false = refl
is_member-put_all table (p ∷ ps) q = is_member-put_all (put_number p table) ps q
    ∙ ap (λ x. x || is_member ps q) (is_member-put_number p table q) ∙ or_again (eqb p q) (is_member table q) (is_member ps q)

pub length-put_all : (table ps : List ℕ) → length (put_all table ps) ≡ length table + length ps
length-put_all table [] = omega arith
length-put_all table (p ∷ ps) = omega (arith, length-put_all (put_number p table) ps, length-put_number p table)

pub IsBelowAll-put_all : (q : ℕ) (table ps : List ℕ) → IsBelowAll q table → IsBelowAll q ps → IsBelowAll q (put_all table ps)
IsBelowAll-put_all q table [] h m = h
IsBelowAll-put_all q table (p ∷ ps) h m = IsBelowAll-put_all q (put_number p table) ps (IsBelowAll-put_number q p table m.0 h) m.1

-- no number stands in both
abbrev AreApart : List ℕ → List ℕ → Type 0
AreApart table ps = (q : ℕ) → IsTrue (is_member ps q) → IsFalse (is_member table q)

apart_after : (p : ℕ) (table ps : List ℕ) → (IsTrue (is_member ps p) → ⊥) → AreApart table (p ∷ ps) → AreApart (put_number p table) ps
apart_after p table ps new apart q m = is_member-put_number p table q
    ∙ neither (apart q (or_right (eqb p q) (is_member ps q) m)) (false_from_ne_true (eqb p q) (λ e. new (same (eqb-true p q e))))
  where
    same : p ≡ q → IsTrue (is_member ps p)
    same e = rw e m

    neither : IsFalse (is_member table q) → eqb p q ≡ false → eqb p q || is_member table q ≡ false
    neither h e = rw (e, h) refl

AreRising-put_all : (table ps : List ℕ) → AreRising table → AreDistinct ps → AreApart table ps → AreRising (put_all table ps)
AreRising-put_all table [] h d apart = h
AreRising-put_all table (p ∷ ps) h d apart =
    AreRising-put_all (put_number p table) ps
    (AreRising-put_number p table (apart p (or_left (eqb p p) (is_member ps p) (eq-eqb p p refl))) h) d.1
    (apart_after p table ps d.0 apart)

-- ---- what the order keeps

pub is_member-in_order : (ps : List ℕ) (q : ℕ) → is_member (in_order ps) q ≡ is_member ps q
is_member-in_order ps q = is_member-put_all [] ps q

pub length-in_order : (ps : List ℕ) → length (in_order ps) ≡ length ps
length-in_order ps = omega (arith, length-put_all [] ps)

-- different numbers in order rise
pub AreRising-in_order : (ps : List ℕ) → AreDistinct ps → AreRising (in_order ps)
AreRising-in_order ps d = AreRising-put_all [] ps tt d (λ q m. refl)

pub AreDistinct-in_order : (ps : List ℕ) → AreDistinct ps → AreDistinct (in_order ps)
AreDistinct-in_order ps d = distinct_from_rising (in_order ps) (AreRising-in_order ps d)

pub IsBelowAll-in_order : (q : ℕ) (ps : List ℕ) → IsBelowAll q ps → IsBelowAll q (in_order ps)
IsBelowAll-in_order q ps h = IsBelowAll-put_all q [] ps tt h

-- ---- what a sort leaves

count-put_number : (n p : ℕ) (ps : List ℕ) → count n (put_number p ps) ≡ count n (p ∷ ps)
count-put_number n p [] = refl
count-put_number n p (r ∷ ps) = by_test (cases_Bool (ltb p r)) (count-put_number n p ps)
  where
    by_test : (ltb p r ≡ true) ⊎ (ltb p r ≡ false) → count n (put_number p ps) ≡ count n (p ∷ ps)
        → count n (put_number p (r ∷ ps)) ≡ count n (p ∷ r ∷ ps)
    by_test (inl e) h = rw e refl
    by_test (inr e) h = rw e (omega (arith, h))

count-put_all : (n : ℕ) (table ps : List ℕ) → count n (put_all table ps) ≡ count n table + count n ps
count-put_all n table [] = omega arith
count-put_all n table (p ∷ ps) = omega (arith, count-put_all n (put_number p table) ps, count-put_number n p table)

-- each of these is at least q where q is below them all
AreFrom-below : (q : ℕ) (ps : List ℕ) → IsBelowAll q ps → AreFrom q ps
AreFrom-below q [] h = tt
AreFrom-below q (p ∷ ps) h = (let l : q < p = h.0 in omega arith, AreFrom-below q ps h.1)

rises : (ps : List ℕ) → AreRising ps → Rises ps
rises [] h = tt
rises (p ∷ ps) h = (AreFrom-below p ps h.0, rises ps h.1)

-- different numbers that were sorted are in order
pub sorted-in_order : (ps qs : List ℕ) → AreDistinct ps → IsPermutation ps qs → IsSorted nat_cmp qs → qs ≡ in_order ps
sorted-in_order ps qs distinct moved sorted =
    same_rising qs (in_order ps) (rises-sorted qs sorted) (rises (in_order ps) (AreRising-in_order ps distinct))
    (λ n. count-permutation n ps qs moved ∙ in_order-keeps n)
  where
    in_order-keeps : (n : ℕ) → count n ps ≡ count n (in_order ps)
    in_order-keeps n = omega (arith, count-put_all n [] ps)
