-- The order of what waiting operations wait for.
use Rattle.std.proofs.Common.{◌≡◌, ◌≤◌, ◌⊎◌, inl, inr, ℕ, Bool, true, false, cond, ◌==◌, ◌||◌, ◌&&◌, List}
use Rattle.std.proofs.Common.{[], ◌∷◌, refl, sym, ap, subst, ◌∙◌, arith}
use Rattle.std.proofs.Common.{◌≢◌, not, true≢false, nat_lt, nat_cmp}
use Rattle.std.specs.declared.cmp.Ordering.{Ordering}
use Rattle.std.specs.declared.cmp.Ordering.TheVariants.{Less, Equal, Greater}
use Rattle.std.specs.Ordering.{is_eq, is_gt, is_le, ordering_then}
use Rattle.std.specs.List.{filter, list_any}
use Rattle.std.specs.declared.ops.Bound.TheVariants.{Included, Unbounded}
use Rattle.std.specs.BTreeMap.Range.{range_contains}
use Rattle.std.specs.BTreeSet.{BTreeSet, contains, keys_between, IsOrdered}
use Rattle.std.specs.List.{AllByRecursion}
use Rattle.std.specs.List.Sorted.{IsStrictlySortedBy}
use Rattle.std.proofs.lemmas.List.Kept.{IsStrictlySortedBy-filter}
use Rattle.std.proofs.lemmas.Cmp.{nat_cmp_total, tied_itself}
use Rattle.std.proofs.lemmas.Bool.{eq-eqb, ltb-true, eqb-true}
use Rattle.std.proofs.lemmas.Bool.Decides.{nat_tests}
use Rattle.semantics.specs.LegalHistory.{IsAmong}
use Rattle.inbox.specs.declared.awaited.Awaited.{Awaited}
use Rattle.inbox.specs.Awaiting.{await_cmp}

-- what an order of two numbers says of them
number_rises : (x y : ℕ) (r : Ordering) → is_gt (ordering_then (nat_cmp x y) r) ≡ false → x ≤ y
number_rises x y r h = at_tests (nat_lt x y) (x == y) refl refl h
  where
    at_tests : (b c : Bool) → nat_lt x y ≡ b → (x == y) ≡ c → is_gt (ordering_then (cond b Less (cond c Equal Greater)) r) ≡ false → x ≤ y
    at_tests true c e f k = (let lt = ltb-true x y e in omega arith)
    at_tests false true e f k = (let eq = eqb-true x y f in omega arith)
    at_tests false false e f k = absurd (true≢false k)

pub rises : (a b : Awaited) → is_gt (await_cmp a b) ≡ false → a.replica ≤ b.replica
rises a b h = number_rises a.replica b.replica (ordering_then (nat_cmp a.counter b.counter) (nat_cmp a.key b.key)) h

-- numbers that a test tells apart
pub apart : (x y : ℕ) → true ≡ not (x == y) → x ≢ y
apart x y h same = true≢false (h ∙ ap not (eq-eqb x y same))

-- the first that may wait for a replica
abbrev pub first_at : ℕ → Awaited
first_at i = record { replica = i; counter = 0; key = 0 }

pub from_first : (i : ℕ) (q : Awaited) → i ≤ q.replica → is_gt (await_cmp (first_at i) q) ≡ false
from_first i q h = grind (arith, nat_tests)

-- ---- those from a replica on

same_number : (x y : ℕ) → is_eq (nat_cmp x y) ≡ true → x ≡ y
same_number x y h = at_tests (nat_lt x y) (x == y) refl h
  where
    at_tests : (b c : Bool) → (x == y) ≡ c → is_eq (cond b Less (cond c Equal Greater)) ≡ true → x ≡ y
    at_tests true c f k = absurd (true≢false (sym k))
    at_tests false true f k = eqb-true x y f
    at_tests false false f k = absurd (true≢false (sym k))

both_same : (o r : Ordering) → is_eq (ordering_then o r) ≡ true → (is_eq o ≡ true) × (is_eq r ≡ true)
both_same Less r h = absurd (true≢false (sym h))
both_same Equal r h = (refl, h)
both_same Greater r h = absurd (true≢false (sym h))

pub itself : (a : Awaited) → is_eq (await_cmp a a) ≡ true
itself a = grind (arith, nat_tests)

pub same_await : (a b : Awaited) → is_eq (await_cmp a b) ≡ true → a ≡ b
same_await a b h =
    let one = both_same (nat_cmp a.replica b.replica) (ordering_then (nat_cmp a.counter b.counter) (nat_cmp a.key b.key)) h in
    let two = both_same (nat_cmp a.counter b.counter) (nat_cmp a.key b.key) one.1 in
    let replica : a.replica ≡ b.replica = same_number a.replica b.replica one.0 in
    let counter : a.counter ≡ b.counter = same_number a.counter b.counter two.0 in
    let key : a.key ≡ b.key = same_number a.key b.key two.1 in
    λ i. record { replica = replica i; counter = counter i; key = key i }

among_filter : (p : Awaited → Bool) (q : Awaited) (ks : List Awaited) → list_any (λ k. is_eq (await_cmp q k)) ks ≡ true → p q ≡ true
    → IsAmong q (filter p ks)
among_filter p q [] h t = absurd (true≢false (sym h))
among_filter p q (k ∷ ks) h t = at_test (λ g. among_filter p q ks g t) (is_eq (await_cmp q k)) refl h
  where
    kept : (b : Bool) → IsAmong q (filter p ks) → IsAmong q (cond b (k ∷ filter p ks) (filter p ks))
    kept true m = inr m
    kept false m = m

    at_test : (list_any (λ k. is_eq (await_cmp q k)) ks ≡ true → IsAmong q (filter p ks)) → (b : Bool) → is_eq (await_cmp q k) ≡ b
        → (b || list_any (λ k. is_eq (await_cmp q k)) ks) ≡ true → IsAmong q (cond (p k) (k ∷ filter p ks) (filter p ks))
    at_test rest true same g = (let one = same_await q k same in rw (ap p (sym one) ∙ t) (inl one))
    at_test rest false differs g = kept (p k) (rest g)

le_from : (o : Ordering) → is_gt o ≡ false → is_le o ≡ true
le_from Less h = refl
le_from Equal h = refl
le_from Greater h = absurd (true≢false h)

among_kept : (p : Awaited → Bool) (q : Awaited) (ks : List Awaited) → IsAmong q (filter p ks) → p q ≡ true
among_kept p q [] m = absurd m
among_kept p q (k ∷ ks) m = at_test (among_kept p q ks) (p k) refl m
  where
    at_test : (IsAmong q (filter p ks) → p q ≡ true) → (b : Bool) → p k ≡ b → IsAmong q (cond b (k ∷ filter p ks) (filter p ks))
        → p q ≡ true
    at_test rest true e (inl here) = ap p here ∙ e
    at_test rest true e (inr there) = rest there
    at_test rest false e there = rest there

gt_from : (o : Ordering) → (is_le o && true) ≡ true → is_gt o ≡ false
gt_from Less h = refl
gt_from Equal h = refl
gt_from Greater h = absurd (true≢false (sym h))

-- all from a replica on, in their order
module _ (awaits : BTreeSet Awaited) (r : List Awaited) (i : ℕ)
    (is : r ≡ keys_between await_cmp (Included (first_at i)) Unbounded awaits) where
  pub all_from : (q : Awaited) → contains await_cmp awaits q ≡ true → i ≤ q.replica → IsAmong q r
  all_from q held from =
      rw is (among_filter (range_contains await_cmp (Included (first_at i)) Unbounded) q awaits.keys held
      (let low = le_from (await_cmp (first_at i) q) (from_first i q from) in ap (λ b. b && true) low))

  -- and no others
  pub none_before : (q : Awaited) → IsAmong q r → i ≤ q.replica
  none_before q m =
      rises (first_at i) q
      (gt_from (await_cmp (first_at i) q)
      (among_kept (range_contains await_cmp (Included (first_at i)) Unbounded) q awaits.keys (subst (IsAmong q) is m)))

  pub in_order : IsOrdered await_cmp awaits → IsStrictlySortedBy await_cmp r
  in_order ordered =
      rw is (IsStrictlySortedBy-filter await_cmp (range_contains await_cmp (Included (first_at i)) Unbounded) awaits.keys ordered)

all_below : (a q : Awaited) (r : List Awaited) → AllByRecursion (λ x. await_cmp a x ≡ Less) r → IsAmong q r → await_cmp a q ≡ Less
all_below a q [] h m = absurd m
all_below a q (x ∷ r) h (inl e) = ap (await_cmp a) e ∙ h.0
all_below a q (x ∷ r) h (inr m) = all_below a q r h.1 m

not_above : (o : Ordering) → is_eq o ≡ true → is_gt o ≡ false
not_above Less k = refl
not_above Equal k = refl
not_above Greater k = absurd (true≢false (sym k))

next_below : (a q : Awaited) (r : List Awaited) → IsStrictlySortedBy await_cmp (a ∷ r) → IsAmong q (a ∷ r) → is_gt (await_cmp a q) ≡ false
unfolding IsStrictlySortedBy
next_below a q r h (inl e) = not_above (await_cmp a q) (ap (λ x. is_eq (await_cmp a x)) e ∙ itself a)
next_below a q r h (inr m) = ap is_gt (all_below a q r h.0 m)

behind_next : (a : Awaited) (r : List Awaited) → IsStrictlySortedBy await_cmp (a ∷ r) → IsStrictlySortedBy await_cmp r
unfolding IsStrictlySortedBy
behind_next a r h = h.1

-- what is left has its next one, and what is left behind that
module _ (r rest : List Awaited) (next : Awaited) (is : r ≡ next ∷ rest) where
  pub first_left : IsAmong next r
  first_left = subst (IsAmong next) (sym is) (inl refl)

  pub rest_left : (q : Awaited) → IsAmong q rest → IsAmong q r
  rest_left q m = subst (IsAmong q) (sym is) (inr m)

-- the next one of what is left
module _ (r rest : List Awaited) (next : Awaited) (is : r ≡ next ∷ rest) (rising : IsStrictlySortedBy await_cmp r) where
  pub left_above : (q : Awaited) → IsAmong q r → is_gt (await_cmp next q) ≡ false
  left_above q m = next_below next q rest (subst (IsStrictlySortedBy await_cmp) is rising) (subst (IsAmong q) is m)

  pub left_rising : IsStrictlySortedBy await_cmp rest
  left_rising = behind_next next rest (subst (IsStrictlySortedBy await_cmp) is rising)

  pub next_or_left : (q : Awaited) → IsAmong q r → (q ≡ next) ⊎ IsAmong q rest
  next_or_left q m = subst (IsAmong q) is m

-- the counters of one replica are in ascending order
pub counter_rises : (a b : Awaited) → is_gt (await_cmp a b) ≡ false → a.replica ≡ b.replica → a.counter ≤ b.counter
counter_rises a b h same =
    number_rises a.counter b.counter (nat_cmp a.key b.key)
    (sym (ap is_gt (past_equal (nat_cmp a.replica b.replica) (ordering_then (nat_cmp a.counter b.counter) (nat_cmp a.key b.key)) equal))
    ∙ h)
  where
    equal : is_eq (nat_cmp a.replica b.replica) ≡ true
    equal = ap (λ i. is_eq (nat_cmp a.replica i)) (sym same) ∙ ap is_eq (tied_itself nat_cmp_total a.replica)

    past_equal : (o r : Ordering) → is_eq o ≡ true → ordering_then o r ≡ r
    past_equal Less r e = absurd (true≢false (sym e))
    past_equal Equal r e = refl
    past_equal Greater r e = absurd (true≢false (sym e))
