use Rattle.std.proofs.Common.{◌≡◌, ◌∙◌, ◌≤◌, ◌-◌, ◌||◌, refl, ap, ℕ, zero, suc, Bool, true, false, IsTrue, List, [], ◌∷◌, length}
use Rattle.std.proofs.Common.{slice_get}
use Rattle.std.proofs.Common.{Some, arith, tests}
use Rattle.std.specs.Ordering.{is_lt}
use Rattle.std.specs.FinMap.{is_sorted}
use Rattle.std.specs.FinMap.Entries.{below_all}
use Rattle.std.proofs.lemmas.Bool.{and_parts}
use Rattle.semantics.specs.Ids.{OpId, id_cmp, is_same_id}
use Rattle.semantics.proofs.Orders.{ids_from_test}
use Rattle.cursor.specs.declared.tag.Tag.{Tag}
use Rattle.columns.specs.Rank.{has_key, keys_of}
use Rattle.columns.proofs.replica_columns.greatest_of.Goals as goal

-- a smaller id has no greater counter
no_greater : (a b : OpId) → is_lt (id_cmp a b) ≡ true → a.counter ≤ b.counter
no_greater a b lt = grind (arith, tests, lt)

below_at : (k : OpId) (es : List (OpId × Tag)) (i : ℕ) (e : OpId × Tag) → IsTrue (below_all id_cmp k es) → slice_get es i ≡ Some e
    → k.counter ≤ e.0.counter
below_at k [] i e b read = absurd (cc)
below_at k (x ∷ es) zero e b read =
    let here : x ≡ e = cc in
    let h = no_greater k x.0 (and_parts (is_lt (id_cmp k x.0)) (below_all id_cmp k es) b).0 in
    let same = ap (λ (y : OpId × Tag). y.0.counter) here in
    omega (arith, h, same)
below_at k (x ∷ es) (suc i) e b read = below_at k es i e (and_parts (is_lt (id_cmp k x.0)) (below_all id_cmp k es) b).1 read

-- no counter is greater than that of the last entry
up_to_last : (q : OpId) (es : List (OpId × Tag)) (i : ℕ) (e : OpId × Tag) → IsTrue (is_sorted id_cmp es) → slice_get es i ≡ Some e
    → length es ≤ suc i → IsTrue (has_key id_cmp q (keys_of es)) → q.counter ≤ e.0.counter
up_to_last q [] i e r read all there = absurd (cc)
up_to_last q (x ∷ []) zero e r read all there = at_test (is_same_id q x.0) refl there
  where
    at_test : (b : Bool) → is_same_id q x.0 ≡ b → IsTrue (b || false) → q.counter ≤ e.0.counter
    at_test true same h =
        let here : x ≡ e = cc in
        let counter = ap (λ (a : OpId). a.counter) (ids_from_test q x.0 same ∙ ap (λ (y : OpId × Tag). y.0) here) in
        omega (arith, counter)
    at_test false differs h = absurd (cc)
up_to_last q (x ∷ y ∷ es) zero e r read all there = absurd (omega (arith, all))
up_to_last q (x ∷ es) (suc i) e r read all there = at_test (is_same_id q x.0) refl there
    (up_to_last q es i e (and_parts (below_all id_cmp x.0 es) (is_sorted id_cmp es) r).1 read (omega (arith, all)))
  where
    at_test : (b : Bool) → is_same_id q x.0 ≡ b → IsTrue (b || has_key id_cmp q (keys_of es))
        → (IsTrue (has_key id_cmp q (keys_of es)) → q.counter ≤ e.0.counter) → q.counter ≤ e.0.counter
    at_test true same h rest =
        let counter = ap (λ (a : OpId). a.counter) (ids_from_test q x.0 same) in
        let before = below_at x.0 es i e (and_parts (below_all id_cmp x.0 es) (is_sorted id_cmp es) r).0 read in
        omega (arith, counter, before)
    at_test false differs h rest = rest h

pub returns-then-eq : goal.returns-then-eq
returns-then-eq c q own there =
    let es = c.args.list.now.entries in
    let e : OpId × Tag = (c.at-last.result.0, c.at-last.result.1.now) in
    let long = c.len-count.ensures.length in
    let some = c.if-count-gt0.true in
    up_to_last q es (c.len-count.result - 1) e c.len-count.ensures.rising c.at-last.ensures (omega (arith, long, some)) there
