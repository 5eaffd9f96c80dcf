-- Members make a table, what a search in a table finds, and one more replica.
use Rattle.std.proofs.Common.{◌≡◌, ℕ, zero, suc, ◌+◌, ◌<◌, ◌≤◌, Bool, true, false, true≢false, cond, not, max, ◌&&◌, ◌||◌, ◌==◌, leb}
use Rattle.std.proofs.Common.{IsTrue, IsFalse}
use Rattle.std.proofs.Common.{inl, inr, List, [], ◌∷◌, ◌++◌, length, get_or, slice_get, take, Some, refl, ap, sym}
use Rattle.std.proofs.Common.{◌∙◌, arith}
use Rattle.std.specs.List.{list_all}
use Rattle.std.proofs.lemmas.Bool.{and_parts, leb-true, eq-eqb, eqb-true, eqb-false, ne_eqb, or_cases, or_left, or_right, or_parts}
use Rattle.std.proofs.lemmas.Bool.{and_from, cond-false, false_from_ne_true, leb-false}
use Rattle.std.proofs.lemmas.List.{length-append}
use Rattle.std.proofs.lemmas.List.Folds.{list_any-append}
use Rattle.ids.specs.Configurations.{is_from_one_to, are_members}
use Rattle.ids.specs.Ids.{id_at}
use Rattle.ids.specs.Members.{AreDistinct, are_distinct, in_order, is_member}
use Rattle.ids.specs.Tables.{IsTable, joined, lacks_room}
use Rattle.ids.specs.Vectors.{Vector, at, most_named, names_only, raise}
use Rattle.ids.proofs.InOrder.{AreDistinct-in_order, IsBelowAll, IsBelowAll-in_order, distinct_from_test, length-in_order}
use Rattle.ids.proofs.LongerLists.{get-append, get-append_last, get-append_cases}
use Rattle.ids.proofs.RaisedVectors.{at-raise, canonical_raise}

-- ---- members

all_above_zero : (ps : List ℕ) → IsTrue (list_all (λ p. leb 1 p) ps) → IsBelowAll 0 ps
all_above_zero [] h = tt
all_above_zero (p ∷ ps) h =
    let parts = and_parts (leb 1 p) (list_all (λ p. leb 1 p) ps) h in let l : 1 ≤ p = leb-true 1 p parts.0 in
    (omega arith, all_above_zero ps parts.1)

-- members are distinct
pub distinct_members : (ps : List ℕ) → IsTrue (are_members ps) → AreDistinct ps
distinct_members ps h =
    distinct_from_test ps (and_parts (is_from_one_to 64 (length ps) && list_all (λ p. leb 1 p) ps) (are_distinct ps) h).1

all_above : (p : ℕ) (ps : List ℕ) → IsBelowAll p ps → (k : ℕ) → k < length ps → p < get_or ps k 0
all_above p [] h k l = absurd (omega arith)
all_above p (q ∷ ps) h zero l = h.0
all_above p (q ∷ ps) h (suc k) l = all_above p ps h.1 k (omega arith)

-- members in order: distinct, few, and above 0
pub ordered_distinct : (ps : List ℕ) → IsTrue (are_members ps) → AreDistinct (in_order ps)
ordered_distinct ps h = AreDistinct-in_order ps (distinct_members ps h)

pub ordered_few : (ps : List ℕ) → IsTrue (are_members ps) → length (in_order ps) ≤ 64
ordered_few ps h =
    let parts = and_parts (is_from_one_to 64 (length ps) && list_all (λ p. leb 1 p) ps) (are_distinct ps) h in
    let rest = and_parts (is_from_one_to 64 (length ps)) (list_all (λ p. leb 1 p) ps) parts.0 in
    let count = and_parts (leb 1 (length ps)) (leb (length ps) 64) rest.0 in
    omega (arith, length-in_order ps, leb-true (length ps) 64 count.1)

pub ordered_above_zero : (ps : List ℕ) → IsTrue (are_members ps) → (k : ℕ) → k < length (in_order ps) → 0 < get_or (in_order ps) k 0
ordered_above_zero ps h =
    let parts = and_parts (is_from_one_to 64 (length ps) && list_all (λ p. leb 1 p) ps) (are_distinct ps) h in
    let rest = and_parts (is_from_one_to 64 (length ps)) (list_all (λ p. leb 1 p) ps) parts.0 in
    all_above 0 (in_order ps) (IsBelowAll-in_order 0 ps (all_above_zero ps rest.1))

-- ---- where each replica stands

pub member_from : (ps : List ℕ) (k p : ℕ) → slice_get ps k ≡ Some p → IsTrue (is_member ps p)
member_from [] k p h = absurd (cc)
member_from (q ∷ ps) zero p h = or_left (q == p) (is_member ps p) (eq-eqb q p cc)
member_from (q ∷ ps) (suc k) p h = or_right (q == p) (is_member ps p) (member_from ps k p h)

pub member_at : (ps : List ℕ) (p : ℕ) → IsTrue (is_member ps p) → (k : ℕ) × (slice_get ps k ≡ Some p)
member_at [] p h = absurd (true≢false (sym h))
member_at (q ∷ ps) p h = elim (or_cases (q == p) (is_member ps p) h) [
  | inl e ↦ (0, ap Some (eqb-true q p e))
  | inr m ↦ (let there = member_at ps p m in (suc there.0, there.1))
]

-- of distinct numbers none stands before itself
pub distinct_before : (ps : List ℕ) → AreDistinct ps → (k d : ℕ) → k < length ps → is_member (take k ps) (get_or ps k d) ≡ false
distinct_before [] h k d l = absurd (omega arith)
distinct_before (p ∷ ps) h zero d l = refl
distinct_before (p ∷ ps) h (suc k) d l =
    neither (ne_eqb p (get_or ps k d) (λ e. h.0 (other e))) (distinct_before ps h.1 k d (omega arith))
  where
    there : (qs : List ℕ) (j : ℕ) → j < length qs → IsTrue (is_member qs (get_or qs j d))
    there [] j m = absurd (omega arith)
    there (q ∷ qs) zero m = or_left (q == q) (is_member qs q) (eq-eqb q q refl)
    there (q ∷ qs) (suc j) m = or_right (q == get_or qs j d) (is_member qs (get_or qs j d)) (there qs j (omega arith))

    other : p ≡ get_or ps k d → IsTrue (is_member ps p)
    other e = ap (is_member ps) e ∙ there ps k (omega arith)

    neither : {a b : _} → a ≡ false → b ≡ false → (a || b) ≡ false
    neither e f = rw (e, f) refl

-- ---- a search

-- the vector's counter is 0 exactly where the replica isn't there
pub placed_nowhere : (ps : List ℕ) (v : Vector) (p : ℕ) → IsTable ps v → at v p ≡ 0 → IsFalse (is_member ps p)
placed_nowhere ps v p t z = false_from_ne_true (is_member ps p) (λ m.
    let there = member_at ps p m in let one = t.placed there.0 p there.1 in omega (arith, one, z))

pub placed_there : (ps : List ℕ) (v : Vector) (p k : ℕ) → IsTable ps v → at v p ≡ suc k → IsTrue (is_member ps p)
placed_there ps v p k t e = member_from ps k p (t.there k p e)

-- ---- one more replica

distinct_behind : (p : ℕ) (ps : List ℕ) → AreDistinct ps → is_member ps p ≡ false → AreDistinct (ps ++ p ∷ [])
distinct_behind p [] d h = ((λ e. true≢false (sym e)), tt)
distinct_behind p (q ∷ ps) d h =
    let parts = or_parts (q == p) (is_member ps p) h in (
      (λ e. elim (or_cases (is_member ps q) ((p == q) || false) (sym (list_any-append (λ x. x == q) ps (p ∷ [])) ∙ e)) [
        | inl f ↦ d.0 f
        | inr f ↦ elim (or_cases (p == q) false f) [
          | inl g ↦ true≢false (sym (eq-eqb q p (sym (eqb-true p q g))) ∙ parts.0)
          | inr g ↦ true≢false (sym g)
        ]
      ]),
      distinct_behind p ps d.1 parts.1,
    )

-- the table with p behind, whose place is named too
pub table_joined : (ps : List ℕ) (v : Vector) (p : ℕ) → IsTable ps v → is_member ps p ≡ false → length ps < most_named
    → IsTable (ps ++ p ∷ []) (raise (id_at (length ps + 1) p) v)
table_joined ps v p t new few = record {
  distinct = distinct_behind p ps t.distinct new;
  few = omega (arith, length-append ps (p ∷ []), few);
  canonical = canonical_raise (id_at (length ps + 1) p) v (λ e. omega (arith, e)) t.canonical;
  placed = placed;
  there = there;
}
  where
    named : (q : ℕ) → at (raise (id_at (length ps + 1) p) v) q ≡ cond (p == q) (max (length ps + 1) (at v q)) (at v q)
    named q = at-raise (id_at (length ps + 1) p) v q

    absent : at v p ≡ 0
    absent = by (at v p) refl
      where
        by : (n : ℕ) → at v p ≡ n → n ≡ 0
        by zero e = refl
        by (suc k) e = absurd (true≢false (sym (placed_there ps v p k t e) ∙ new))

    here : at (raise (id_at (length ps + 1) p) v) p ≡ suc (length ps)
    here = named p ∙ ap (λ b. cond b (max (length ps + 1) (at v p)) (at v p)) (eq-eqb p p refl)
        ∙ ap (max (length ps + 1)) absent ∙ (let m : max (length ps + 1) 0 ≡ suc (length ps) = grind arith in m)

    others : (q : ℕ) → (p ≡ q → ⊥) → at (raise (id_at (length ps + 1) p) v) q ≡ at v q
    others q ne = named q ∙ cond-false (p == q) _ _ (ne_eqb p q ne)

    placed : (k q : ℕ) → slice_get (ps ++ p ∷ []) k ≡ Some q → at (raise (id_at (length ps + 1) p) v) q ≡ suc k
    placed k q h = elim (get-append_cases ps k p q h) [
      | inl old ↦ others q (λ e. true≢false (sym (ap (is_member ps) e ∙ member_from ps k q old) ∙ new)) ∙ t.placed k q old
      | inr last ↦ ap (at (raise (id_at (length ps + 1) p) v)) last.1 ∙ here ∙ ap suc (sym last.0)
    ]

    there : (k q : ℕ) → at (raise (id_at (length ps + 1) p) v) q ≡ suc k → slice_get (ps ++ p ∷ []) k ≡ Some q
    there k q h = by (p == q) refl
      where
        by : (b : _) → (p == q) ≡ b → slice_get (ps ++ p ∷ []) k ≡ Some q
        by true e =
            let same : p ≡ q = eqb-true p q e in
            let at_end : length ps ≡ k = (let n = sym here ∙ ap (at (raise (id_at (length ps + 1) p) v)) same ∙ h in omega (arith, n)) in
            ap (slice_get (ps ++ p ∷ [])) (sym at_end) ∙ get-append_last ps p ∙ ap Some same
        by false e = get-append ps (p ∷ []) k q (t.there k q (sym (others q (eqb-false p q e)) ∙ h))

-- ---- room

-- a replica that isn't in the table, and doesn't lack room, has room
pub has_room : (ps : List ℕ) (p : ℕ) → is_member ps p ≡ false → lacks_room ps p ≡ false → length ps < most_named
has_room ps p new fits = leb-false most_named (length ps) (sym (ap (λ b. not b && leb most_named (length ps)) new) ∙ fits)

-- a member doesn't lack room
pub member_fits : (ps : List ℕ) (p : ℕ) → is_member ps p ≡ true → lacks_room ps p ≡ false
member_fits ps p m = ap (λ b. not b && leb most_named (length ps)) m

-- a replica in the table stays there, and one that joins is there
pub member_joined : (p : ℕ) (ps : List ℕ) (q : ℕ) → is_member ps q ≡ true → is_member (joined p ps) q ≡ true
member_joined p ps q m = by (is_member ps p)
  where
    by : (b : Bool) → is_member (cond b ps (ps ++ p ∷ [])) q ≡ true
    by true = m
    by false = list_any-append (λ x. x == q) ps (p ∷ []) ∙ or_left (is_member ps q) ((p == q) || false) m

pub joined_itself : (p : ℕ) (ps : List ℕ) → is_member (joined p ps) p ≡ true
joined_itself p ps = by (is_member ps p) refl
  where
    by : (b : Bool) → is_member ps p ≡ b → is_member (cond b ps (ps ++ p ∷ [])) p ≡ true
    by true e = e
    by false e = list_any-append (λ x. x == p) ps (p ∷ [])
        ∙ or_right (is_member ps p) ((p == p) || false) (or_left (p == p) false (eq-eqb p p refl))

-- before the replica that joins is only what was there
pub joined_place : (p : ℕ) (ps : List ℕ) (k q : ℕ) → slice_get ps k ≡ Some q → slice_get (joined p ps) k ≡ Some q
joined_place p ps k q h = by (is_member ps p)
  where
    by : (b : Bool) → slice_get (cond b ps (ps ++ p ∷ [])) k ≡ Some q
    by true = h
    by false = get-append ps (p ∷ []) k q h

-- a table that has room for it has at most one more replica, and no more than 256
pub length_joined : (p : ℕ) (ps : List ℕ) → length (joined p ps) ≤ length ps + 1
length_joined p ps = by (is_member ps p)
  where
    by : (b : Bool) → length (cond b ps (ps ++ p ∷ [])) ≤ length ps + 1
    by true = omega arith
    by false = omega (arith, length-append ps (p ∷ []))

-- what the vector names is still in the table
pub names_joined : (p : ℕ) (ps : List ℕ) (v : Vector) → names_only ps v ≡ true → names_only (joined p ps) v ≡ true
names_joined p ps [] h = refl
names_joined p ps (a ∷ v) h =
    let parts = and_parts (is_member ps a.replica) (names_only ps v) h in
    and_from (is_member (joined p ps) a.replica) (names_only (joined p ps) v) (member_joined p ps a.replica parts.0)
    (names_joined p ps v parts.1)

-- the replica that joins has another number
pub distinct_joined : (p : ℕ) (ps : List ℕ) → AreDistinct ps → AreDistinct (joined p ps)
distinct_joined p ps d = by (is_member ps p) refl
  where
    by : (b : Bool) → is_member ps p ≡ b → AreDistinct (cond b ps (ps ++ p ∷ []))
    by true e = d
    by false e = distinct_behind p ps d e
