-- Counters that rise.
use Rattle.std.proofs.Common.{◌≡◌, ◌≢◌, refl, sym, ap, ◌∙◌, ℕ, zero, suc, ◌+◌, ◌<◌, ◌≤◌, Bool, true, false, cond, not}
use Rattle.std.proofs.Common.{zero-add, ◌||◌}
use Rattle.std.proofs.Common.{◌==◌, IsTrue, List, [], ◌∷◌, ◌++◌, length, get_or, drop, Less, Greater, Some, slice_get, arith}
use Rattle.std.proofs.Common.{tests}
use Rattle.std.proofs.Common.{nat_lt, nat_le, inl, inr}
use Rattle.std.specs.List.{All, filter, list_any, remove}
use Rattle.std.specs.List.Sorted.{IsPartitionPoint}
use Rattle.std.specs.Ordering.{is_lt, nat_cmp, ordering_index}
use Rattle.std.specs.FinMap.Entries.{below_all}
use Rattle.std.proofs.lemmas.Bool.{and_from, and_parts, cases_lt, ne_eqb, le-ltb, leb-true, le-leb}
use Rattle.std.proofs.lemmas.Cmp.{ranked}
use Rattle.std.proofs.lemmas.Option.{get_or_from_slice_get, slice_get_within}
use Rattle.columns.specs.Rank.{as_set}
use Rattle.columns.specs.ReplicaColumns.{is_rising}

-- a counter below all of these
abbrev IsBelow : ℕ → List ℕ → Type 0
IsBelow k ks = IsTrue (below_all nat_cmp k (as_set ks))

less : (a b : ℕ) → is_lt (nat_cmp a b) ≡ true → a < b
less a b h = grind (arith, tests, h)

test_less : (a b : ℕ) → a < b → is_lt (nat_cmp a b) ≡ true
test_less a b lt = grind (arith, tests, lt)

-- a counter below those behind it
pub below_at : (k : ℕ) (ks : List ℕ) (i d : ℕ) → IsBelow k ks → i < length ks → k < get_or ks i d
below_at k [] i d b h = absurd (omega arith)
below_at k (x ∷ ks) zero d b h = less k x (and_parts (is_lt (nat_cmp k x)) (below_all nat_cmp k (as_set ks)) b).0
below_at k (x ∷ ks) (suc i) d b h = below_at k ks i d (and_parts (is_lt (nat_cmp k x)) (below_all nat_cmp k (as_set ks)) b).1 (omega arith)

below_push : (x k : ℕ) (ks : List ℕ) → IsBelow x ks → x < k → IsBelow x (ks ++ k ∷ [])
below_push x k [] b lt = and_from (is_lt (nat_cmp x k)) true (test_less x k lt) refl
below_push x k (y ∷ ks) b lt =
    let parts = and_parts (is_lt (nat_cmp x y)) (below_all nat_cmp x (as_set ks)) b in
    and_from _ _ parts.0 (below_push x k ks parts.1 lt)

-- one behind the last that is greater
pub rising_push : (ks : List ℕ) (k n last : ℕ) → IsTrue (is_rising ks) → slice_get ks n ≡ Some last → length ks ≤ suc n → last < k
    → IsTrue (is_rising (ks ++ k ∷ []))
rising_push [] k n last r e all lt = refl
rising_push (x ∷ []) k zero last r e all lt =
    let same : x ≡ last = cc in
    and_from _ true (and_from (is_lt (nat_cmp x k)) true (test_less x k (omega (arith, same, lt))) refl) refl
rising_push (x ∷ []) k (suc n) last r e all lt = absurd (cc)
rising_push (x ∷ y ∷ ks) k zero last r e all lt = absurd (omega arith)
rising_push (x ∷ y ∷ ks) k (suc n) last r e all lt =
    let parts = and_parts (below_all nat_cmp x (as_set (y ∷ ks))) (is_rising (y ∷ ks)) r in
    let h = below_at x (y ∷ ks) n last parts.0 (slice_get_within (y ∷ ks) n last e) in
    let same = get_or_from_slice_get (y ∷ ks) n last last e in
    and_from _ _ (below_push x k (y ∷ ks) parts.0 (omega (arith, h, same, lt))) (rising_push (y ∷ ks) k n last parts.1 e (omega arith) lt)

-- one behind others that are all smaller
pub rising_last : (ks : List ℕ) (n : ℕ) → IsTrue (is_rising ks) → All (λ k. k < n) ks → IsTrue (is_rising (ks ++ n ∷ []))
rising_last [] n r all = refl
rising_last (x ∷ ks) n r all =
    let parts = and_parts (below_all nat_cmp x (as_set ks)) (is_rising ks) r in
    and_from _ _ (below_push x n ks parts.0 (all zero x (omega arith))) (rising_last ks n parts.1 (λ k d lt. all (suc k) d (omega arith)))

-- counters of which none is this one
pub absent : (k : ℕ) (ks : List ℕ) → ((i d : ℕ) → i < length ks → get_or ks i d ≢ k)
    → (ks ≡ filter (λ x. not (x == k)) ks) × (false ≡ list_any (λ x. x == k) ks)
absent k [] h = (refl, refl)
absent k (x ∷ ks) h =
    let rest = absent k ks (λ i d lt. h (suc i) d (omega arith)) in
    let other : (x == k) ≡ false = ne_eqb x k (h zero k (omega arith)) in (
      ap (λ ys. x ∷ ys) rest.0 ∙ ap (λ b. cond (not b) (x ∷ filter (λ y. not (y == k)) ks) (filter (λ y. not (y == k)) ks)) (sym other),
      rest.1 ∙ ap (λ b. b || list_any (λ y. y == k) ks) (sym other),
    )

-- the one at a position goes
pub removed : (k : ℕ) (ks : List ℕ) (i : ℕ) → IsTrue (is_rising ks) → i < length ks → ((d : ℕ) → get_or ks i d ≡ k)
    → remove ks i ≡ filter (λ x. not (x == k)) ks
removed k [] i r lt at = absurd (omega arith)
removed k (x ∷ ks) zero r lt at =
    let parts = and_parts (below_all nat_cmp x (as_set ks)) (is_rising ks) r in
    let here : x ≡ k = at 0 in
    (absent k ks (λ i d inside e. (let h = below_at x ks i d parts.0 inside in omega (arith, h, e, here)))).0
    ∙ ap (λ b. cond (not b) (x ∷ filter (λ y. not (y == k)) ks) (filter (λ y. not (y == k)) ks)) (sym (same x k here))
  where
    same : (a b : ℕ) → a ≡ b → (a == b) ≡ true
    same a b e = grind (arith, tests, e)
removed k (x ∷ ks) (suc i) r lt at =
    let parts = and_parts (below_all nat_cmp x (as_set ks)) (is_rising ks) r in
    let h = below_at x ks i 0 parts.0 (omega arith) in
    let there = at 0 in
    ap (λ ys. x ∷ ys) (removed k ks i parts.1 (omega arith) at)
    ∙ ap (λ b. cond (not b) (x ∷ filter (λ y. not (y == k)) ks) (filter (λ y. not (y == k)) ks))
    (sym (ne_eqb x k (λ e. omega (arith, h, there, e))))

-- the one at a position is there
pub there_at : (k : ℕ) (ks : List ℕ) (i : ℕ) → i < length ks → ((d : ℕ) → get_or ks i d ≡ k) → list_any (λ x. x == k) ks ≡ true
there_at k [] i lt at = absurd (omega arith)
there_at k (x ∷ ks) zero lt at = ap (λ b. b || list_any (λ y. y == k) ks) (same x k (at 0))
  where
    same : (a b : ℕ) → a ≡ b → (a == b) ≡ true
    same a b e = grind (arith, tests, e)
there_at k (x ∷ ks) (suc i) lt at = later (x == k) (there_at k ks i (omega arith) at)
  where
    later : (b : Bool) → list_any (λ y. y == k) ks ≡ true → (b || list_any (λ y. y == k) ks) ≡ true
    later true h = refl
    later false h = h

remove_none : (i : ℕ) → remove {X = ℕ} [] i ≡ []
remove_none zero = refl
remove_none (suc i) = refl

-- one that goes behind the first n
pub drop-remove : (n : ℕ) (ks : List ℕ) (i m : ℕ) → m ≡ n + i → drop n (remove ks m) ≡ remove (drop n ks) i
drop-remove zero ks i m is = ap (remove ks) (is ∙ zero-add i)
drop-remove (suc n) [] i m is = ap (drop (suc n)) (remove_none m) ∙ sym (remove_none i)
drop-remove (suc n) (x ∷ ks) i zero is = absurd (omega (arith, is))
drop-remove (suc n) (x ∷ ks) i (suc m) is = drop-remove n ks i m (omega (arith, is))

-- those at later positions are no smaller
rises : (ks : List ℕ) → IsTrue (is_rising ks) → (i j d : ℕ) → i ≤ j → j < length ks → get_or ks i d ≤ get_or ks j d
rises [] r i j d le lt = absurd (omega arith)
rises (x ∷ ks) r zero zero d le lt = omega arith
rises (x ∷ ks) r zero (suc j) d le lt =
    let h = below_at x ks j d (and_parts (below_all nat_cmp x (as_set ks)) (is_rising ks) r).0 (omega arith) in omega (arith, h)
rises (x ∷ ks) r (suc i) zero d le lt = absurd (omega arith)
rises (x ∷ ks) r (suc i) (suc j) d le lt = rises ks (and_parts (below_all nat_cmp x (as_set ks)) (is_rising ks) r).1 i j d (omega arith)
    (omega arith)

-- the answers of a search rise
pub answers_rise : (k : ℕ) (ks : List ℕ) → IsTrue (is_rising ks) → (i j d : ℕ) → i ≤ j → j < length ks
    → ordering_index (nat_cmp (get_or ks i d) k) ≤ ordering_index (nat_cmp (get_or ks j d) k)
answers_rise k ks r i j d le lt = higher (get_or ks i d) (get_or ks j d) (rises ks r i j d le lt)
  where
    higher : (a b : ℕ) → a ≤ b → ordering_index (nat_cmp a k) ≤ ordering_index (nat_cmp b k)
    higher a b le = grind (arith, tests)

-- those up to a bound stand before the others
pub bound_parts : (bound : ℕ) (ks : List ℕ) → IsTrue (is_rising ks) → (i j d : ℕ) → i ≤ j → j < length ks
    → nat_le (get_or ks j d) bound ≡ true → nat_le (get_or ks i d) bound ≡ true
bound_parts bound ks r i j d le lt within =
    let h = rises ks r i j d le lt in
    let m = leb-true (get_or ks j d) bound within in
    le-leb (get_or ks i d) bound (omega (arith, h, m))

-- what stands behind those up to a bound is above it
pub dropped : (bound : ℕ) (ks : List ℕ) (n : ℕ) → ((k d : ℕ) → 0 ≤ k → k < n → nat_le (get_or ks k d) bound ≡ true)
    → ((k d : ℕ) → n ≤ k → k < length ks → nat_le (get_or ks k d) bound ≡ false) → n ≤ length ks
    → drop n ks ≡ filter (λ x. nat_lt bound x) ks
dropped bound [] zero before from within = refl
dropped bound [] (suc n) before from within = refl
dropped bound (x ∷ ks) zero before from within =
    ap (λ ys. x ∷ ys) (dropped bound ks zero (λ k d low lt. absurd (omega arith)) (λ k d low lt. from (suc k) d (omega arith) (omega arith))
    (omega arith))
    ∙ ap (λ b. cond b (x ∷ filter (λ y. nat_lt bound y) ks) (filter (λ y. nat_lt bound y) ks))
    (sym (above x (from zero x (omega arith) (omega arith))))
  where
    above : (y : ℕ) → nat_le y bound ≡ false → nat_lt bound y ≡ true
    above y h = grind (arith, tests, h)
dropped bound (x ∷ ks) (suc n) before from within =
    let first = leb-true x bound (before zero x (omega arith) (omega arith)) in
    dropped bound ks n (λ k d low lt. before (suc k) d (omega arith) (omega arith))
    (λ k d low lt. from (suc k) d (omega arith) (omega arith))
    (omega arith)
    ∙ ap (λ b. cond b (x ∷ filter (λ y. nat_lt bound y) ks) (filter (λ y. nat_lt bound y) ks)) (sym (le-ltb bound x first))

-- those that pass a test rise
pub rising_filter : (p : ℕ → Bool) (ks : List ℕ) → IsTrue (is_rising ks) → IsTrue (is_rising (filter p ks))
rising_filter p [] r = refl
rising_filter p (x ∷ ks) r =
    let parts = and_parts (below_all nat_cmp x (as_set ks)) (is_rising ks) r in
    at_test (p x) (below_filter ks parts.0) (rising_filter p ks parts.1)
  where
    below_filter : (ys : List ℕ) → IsBelow x ys → IsBelow x (filter p ys)
    below_filter [] b = refl
    below_filter (y ∷ ys) b =
        let parts = and_parts (is_lt (nat_cmp x y)) (below_all nat_cmp x (as_set ys)) b in
        at_first (p y) parts.0 (below_filter ys parts.1)
      where
        at_first : (t : Bool) → is_lt (nat_cmp x y) ≡ true → IsBelow x (filter p ys) → IsBelow x (cond t (y ∷ filter p ys) (filter p ys))
        at_first true first h = and_from _ _ first h
        at_first false first h = h

    at_test : (t : Bool) → IsBelow x (filter p ks) → IsTrue (is_rising (filter p ks))
        → IsTrue (is_rising (cond t (x ∷ filter p ks) (filter p ks)))
    at_test true b h = and_from _ _ b h
    at_test false b h = h

-- a counter that a search doesn't find is another one than each that is there
pub elsewhere : (k : ℕ) (ks : List ℕ) (place : ℕ)
    → IsPartitionPoint (λ y. nat_cmp y k ≡ Less) (λ y. nat_cmp y k ≡ Greater) ks place
    → (i d : ℕ) → i < length ks → get_or ks i d ≢ k
elsewhere k ks place point i d lt e =
    elim (cases_lt i place) [
      | inl before ↦ (let h = ranked (get_or ks i d) k Less (sym (point.0 i d (omega arith) before)) in omega (arith, h, e))
      | inr from ↦ (let h = ranked (get_or ks i d) k Greater (sym (point.1 i d from lt)) in omega (arith, h, e))
    ]
