-- What is found among the ids of columns, one for each replica.
use Rattle.std.proofs.Common.{◌≡◌, refl, sym, ap, ◌∙◌, ℕ, zero, suc, ◌+◌, ◌<◌, Bool, true, false, true≢false, cond, ◌&&◌}
use Rattle.std.proofs.Common.{◌||◌, ◌==◌}
use Rattle.std.proofs.Common.{List, [], ◌∷◌, map, length, get_or, set, slice_get, arith, tests}
use Rattle.std.specs.Prelude.{Option, Some, None}
use Rattle.std.specs.List.{list_any}
use Rattle.std.specs.Option.{option_or}
use Rattle.std.specs.FinMap.{find}
use Rattle.std.proofs.lemmas.Bool.{eqb-true}
use Rattle.std.proofs.lemmas.List.{length-append, length-map}
use Rattle.ids.specs.Members.{AreDistinct, is_member}
use Rattle.semantics.specs.Ids.{OpId, id_at, id_cmp, is_same_id}
use Rattle.columns.specs.ReplicaColumns.{Standing, replicas_of, standing, standing_in}
use Rattle.columns.specs.declared.replica_column.ReplicaColumn.{ReplicaColumn}
use Rattle.columns.proofs.PutEach.{find-both}

-- the ids of a replica with these counters, each with what stands there
abbrev pub run : ℕ → Standing → List ℕ → List (OpId × Standing)
run p s ks = map (λ k. (id_at k p, s)) ks

-- one id is another by its counter and its replica
pub same_parts : (q : OpId) (k p : ℕ) → is_same_id q (id_at k p) ≡ ((q.replica == p) && (k == q.counter))
same_parts q k p = grind (arith, tests)

pub find-run : (q : OpId) (p : ℕ) (s : Standing) (ks : List ℕ)
    → find id_cmp q (run p s ks) ≡ cond ((q.replica == p) && list_any (λ k. k == q.counter) ks) (Some s) None
find-run q p s [] = at_test (q.replica == p)
  where
    at_test : (b : Bool) → None ≡ cond (b && false) (Some s) None
    at_test true = refl
    at_test false = refl
find-run q p s (k ∷ ks) =
    ap (λ b. cond b (Some s) (find id_cmp q (run p s ks))) (same_parts q k p)
    ∙ at_tests (q.replica == p) (k == q.counter) (list_any (λ j. j == q.counter) ks) (find-run q p s ks)
  where
    at_tests : (b e a : Bool) → find id_cmp q (run p s ks) ≡ cond (b && a) (Some s) None
        → cond (b && e) (Some s) (find id_cmp q (run p s ks)) ≡ cond (b && (e || a)) (Some s) None
    at_tests true true a h = refl
    at_tests true false a h = h
    at_tests false e a h = h

-- an id of another replica isn't in a column
pub find_other : (q : OpId) (c : ReplicaColumn) → (q.replica == c.replica) ≡ false → find id_cmp q (standing_in c) ≡ None
find_other q c other = find-run q c.replica (c.tag, c.index) c.counters.items
    ∙ ap (λ b. cond (b && list_any (λ k. k == q.counter) c.counters.items) (Some (c.tag, c.index)) None) other

-- nothing is found of a replica that has no column
pub find_no_column : (q : OpId) (cs : List ReplicaColumn) → is_member (replicas_of cs) q.replica ≡ false
    → find id_cmp q (standing cs) ≡ None
find_no_column q [] none = refl
find_no_column q (c ∷ cs) none =
    let parts = or_parts_false (c.replica == q.replica) (is_member (replicas_of cs) q.replica) none in
    find-both q (standing_in c) (standing cs)
    ∙ ap (λ o. option_or o (find id_cmp q (standing cs))) (find_other q c (turned c.replica q.replica parts.0))
    ∙ find_no_column q cs parts.1
  where
    or_parts_false : (a b : Bool) → (a || b) ≡ false → (a ≡ false) × (b ≡ false)
    or_parts_false true b h = absurd (true≢false h)
    or_parts_false false b h = (refl, h)

    turned : (a b : ℕ) → (a == b) ≡ false → (b == a) ≡ false
    turned a b h = grind (arith, tests, h)

pub same_test : (a b : ℕ) → a ≡ b → (a == b) ≡ true
same_test a b e = grind (arith, tests, e)

-- a replica whose column stands at a place is a member
pub member_at : (p : ℕ) (ps : List ℕ) (i : ℕ) → slice_get ps i ≡ Some p → is_member ps p ≡ true
member_at p [] i at = absurd (cc)
member_at p (x ∷ ps) zero at = let same : x ≡ p = cc in ap (λ b. b || is_member ps p) (same_test x p same)
member_at p (x ∷ ps) (suc i) at = at_test (x == p) (member_at p ps i at)
  where
    at_test : (b : Bool) → is_member ps p ≡ true → (b || is_member ps p) ≡ true
    at_test true h = refl
    at_test false h = h

pub option_or_none : {X : Type 0} (o : Option X) → option_or o None ≡ o
option_or_none None = refl
option_or_none (Some x) = refl

-- what is found of the replica whose column is written
pub find_own : (q : OpId) (cs : List ReplicaColumn) (i : ℕ) (d : ReplicaColumn) → AreDistinct (replicas_of cs)
    → slice_get (replicas_of cs) i ≡ Some q.replica
    → find id_cmp q (standing (set cs i d)) ≡ find id_cmp q (standing_in d)
find_own q [] i d distinct at = absurd (cc)
find_own q (c ∷ cs) zero d distinct at =
    let same : c.replica ≡ q.replica = cc in
    find-both q (standing_in d) (standing cs)
    ∙ ap (option_or (find id_cmp q (standing_in d))) (find_no_column q cs (no_member q.replica same))
    ∙ option_or_none (find id_cmp q (standing_in d))
  where
    no_member : (p : ℕ) → c.replica ≡ p → is_member (replicas_of cs) p ≡ false
    no_member p same = at_test (is_member (replicas_of cs) p) (λ h. distinct.0 (ap (is_member (replicas_of cs)) same ∙ h))
      where
        at_test : (b : Bool) → (b ≡ true → ⊥) → b ≡ false
        at_test true h = absurd (h refl)
        at_test false h = refl
find_own q (c ∷ cs) (suc i) d distinct at =
    find-both q (standing_in c) (standing (set cs i d))
    ∙ ap (λ o. option_or o (find id_cmp q (standing (set cs i d)))) (find_other q c (at_test (q.replica == c.replica) refl))
    ∙ find_own q cs i d distinct.1 at
  where
    at_test : (b : Bool) → (q.replica == c.replica) ≡ b → b ≡ false
    at_test false h = refl
    at_test true h = absurd (distinct.0 (ap (is_member (replicas_of cs)) (sym (eqb-true q.replica c.replica h))
        ∙ member_at q.replica (replicas_of cs) i at))

-- what is found of the others stays
pub find_beside : (q : OpId) (cs : List ReplicaColumn) (i : ℕ) (d : ReplicaColumn) → (q.replica == d.replica) ≡ false
    → slice_get (replicas_of cs) i ≡ Some d.replica
    → find id_cmp q (standing (set cs i d)) ≡ find id_cmp q (standing cs)
find_beside q [] i d other at = refl
find_beside q (c ∷ cs) zero d other at =
    let same : c.replica ≡ d.replica = cc in
    find-both q (standing_in d) (standing cs)
    ∙ ap (λ o. option_or o (find id_cmp q (standing cs))) (find_other q d other
    ∙ sym (find_other q c (ap (λ p. q.replica == p) same ∙ other)))
    ∙ sym (find-both q (standing_in c) (standing cs))
find_beside q (c ∷ cs) (suc i) d other at =
    find-both q (standing_in c) (standing (set cs i d))
    ∙ ap (option_or (find id_cmp q (standing_in c))) (find_beside q cs i d other at)
    ∙ sym (find-both q (standing_in c) (standing cs))

-- how many ids stand in the columns, where one is written
pub length_written : (cs : List ReplicaColumn) (i : ℕ) (c d : ReplicaColumn) → i < length cs → c ≡ get_or cs i c
    → length (standing (set cs i d)) + length c.counters.items ≡ length (standing cs) + length d.counters.items
length_written [] i c d lt read = absurd (omega arith)
length_written (x ∷ cs) zero c d lt read =
    let here = length-append (standing_in d) (standing cs) in
    let before = length-append (standing_in x) (standing cs) in
    let new : length (standing_in d) ≡ length d.counters.items = length-map d.counters.items (λ k. (id_at k d.replica, (d.tag, d.index))) in
    let old : length (standing_in x) ≡ length x.counters.items = length-map x.counters.items (λ k. (id_at k x.replica, (x.tag, x.index))) in
    let same = ap (λ (e : ReplicaColumn). length e.counters.items) read in
    omega (arith, here, before, new, old, same)
length_written (x ∷ cs) (suc i) c d lt read =
    let here = length-append (standing_in x) (standing (set cs i d)) in
    let before = length-append (standing_in x) (standing cs) in
    let rest = length_written cs i c d (omega arith) read in
    omega (arith, here, before, rest)
