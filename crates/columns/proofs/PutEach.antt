-- Entries that are put into a map one after the other.
use Rattle.std.proofs.Common.{◌≡◌, ◌≢◌, refl, sym, ap, ◌∙◌, ◌+◌, Bool, true, false, true≢false, cond, IsTrue, List, []}
use Rattle.std.proofs.Common.{◌∷◌, ◌++◌}
use Rattle.std.proofs.Common.{length, arith, Less, Equal, Greater}
use Rattle.std.specs.Prelude.{⊤, Option, Some, None, is_some}
use Rattle.std.specs.List.{filter}
use Rattle.std.specs.Option.{option_or}
use Rattle.std.specs.Ordering.{is_eq, is_lt}
use Rattle.std.specs.FinMap.{find, put, is_sorted}
use Rattle.std.specs.FinMap.Entries.{below_all, by_order, find-put, length-put, same_entries}
use Rattle.std.proofs.lemmas.Bool.{and_from, and_parts}
use Rattle.semantics.specs.Ids.{OpId, id_cmp, is_same_id}
use Rattle.semantics.proofs.Orders.{id_total, id_tested, ids_from_test, same_ids, Less_from_test}
use Rattle.columns.specs.ReplicaColumns.{put_each}
use Rattle.columns.proofs.Puts.{of_test, rising_put}

module _ {X : Type 0} where
  -- maps that answer alike are one
  pub same_maps : (a b : List (OpId × X)) → IsTrue (is_sorted id_cmp a) → IsTrue (is_sorted id_cmp b)
      → ((q : OpId) → find id_cmp q a ≡ find id_cmp q b) → a ≡ b
  same_maps a b ra rb is = same_entries id_cmp id_total same_ids a b (of_test _ ra) (of_test _ rb) is

  pub find-both : (q : OpId) (xs ys : List (OpId × X)) → find id_cmp q (xs ++ ys) ≡ option_or (find id_cmp q xs) (find id_cmp q ys)
  find-both q [] ys = refl
  find-both q (x ∷ xs) ys = at_test (is_same_id q x.0) (find-both q xs ys)
    where
      at_test : (b : Bool) → find id_cmp q (xs ++ ys) ≡ option_or (find id_cmp q xs) (find id_cmp q ys)
          → cond b (Some x.1) (find id_cmp q (xs ++ ys)) ≡ option_or (cond b (Some x.1) (find id_cmp q xs)) (find id_cmp q ys)
      at_test true h = refl
      at_test false h = h

  pub find-each : (q : OpId) (es m : List (OpId × X)) → find id_cmp q (put_each es m) ≡ option_or (find id_cmp q es) (find id_cmp q m)
  find-each q [] m = refl
  find-each q (e ∷ es) m = find-put id_cmp id_total q e.0 e.1 (put_each es m) ∙ at_test (is_same_id q e.0) (find-each q es m)
    where
      at_test : (b : Bool) → find id_cmp q (put_each es m) ≡ option_or (find id_cmp q es) (find id_cmp q m)
          → cond b (Some e.1) (find id_cmp q (put_each es m)) ≡ option_or (cond b (Some e.1) (find id_cmp q es)) (find id_cmp q m)
      at_test true h = refl
      at_test false h = h

  pub rising_each : (es m : List (OpId × X)) → IsTrue (is_sorted id_cmp m) → IsTrue (is_sorted id_cmp (put_each es m))
  rising_each [] m r = r
  rising_each (e ∷ es) m r = rising_put id_cmp id_total e.0 e.1 (put_each es m) (rising_each es m r)

  -- a map with one entry put, by its answers
  pub is_put : (id : OpId) (v : X) (new old : List (OpId × X)) → IsTrue (is_sorted id_cmp new) → IsTrue (is_sorted id_cmp old)
      → find id_cmp id new ≡ Some v → ((q : OpId) → q ≢ id → find id_cmp q new ≡ find id_cmp q old) → new ≡ put id_cmp id v old
  is_put id v new old rn ro here others = same_maps new (put id_cmp id v old) rn (rising_put id_cmp id_total id v old ro)
      (λ q. at_test q (is_same_id q id) refl ∙ sym (find-put id_cmp id_total q id v old))
    where
      at_test : (q : OpId) (b : Bool) → is_same_id q id ≡ b → find id_cmp q new ≡ cond b (Some v) (find id_cmp q old)
      at_test q true same = ap (λ a. find id_cmp a new) (ids_from_test q id same) ∙ here
      at_test q false other = others q (λ e. true≢false (sym (id_tested q id e) ∙ other))

  -- none of these ids is in the map, and none stands twice
  abbrev pub AreNew : List (OpId × X) → List (OpId × X) → Type 0
  AreNew [] m = ⊤
  AreNew (e ∷ es) m = (find id_cmp e.0 (put_each es m) ≡ None) × AreNew es m

  pub length-each : (es m : List (OpId × X)) → IsTrue (is_sorted id_cmp m) → AreNew es m → length (put_each es m) ≡ length es + length m
  length-each [] m r new = omega arith
  length-each (e ∷ es) m r new =
      let rest = length-each es m r new.1 in
      let more : length (put id_cmp e.0 e.1 (put_each es m)) ≡ length (put_each es m) + 1 =
      length-put id_cmp id_total e.0 e.1 (put_each es m) (of_test _ (rising_each es m r))
      ∙ ap (λ (o : Option X). cond (is_some o) (length (put_each es m)) (length (put_each es m) + 1)) new.0 in
      omega (arith, rest, more)

  -- an entry below all
  pub put_below : (id : OpId) (v : X) (m : List (OpId × X)) → IsTrue (below_all id_cmp id m) → put id_cmp id v m ≡ (id, v) ∷ m
  put_below id v [] b = refl
  put_below id v (e ∷ es) b = ap (λ r. by_order r ((id, v) ∷ e ∷ es) ((e.0, v) ∷ es) (e ∷ put id_cmp id v es))
      (Less_from_test _ (and_parts _ _ b).0)

  below_filter : (p : OpId × X → Bool) (id : OpId) (m : List (OpId × X)) → IsTrue (below_all id_cmp id m)
      → IsTrue (below_all id_cmp id (filter p m))
  below_filter p id [] b = refl
  below_filter p id (e ∷ es) b =
      let parts = and_parts (is_lt (id_cmp id e.0)) (below_all id_cmp id es) b in
      at_test (p e) parts.0 (below_filter p id es parts.1)
    where
      at_test : (t : Bool) → is_lt (id_cmp id e.0) ≡ true → IsTrue (below_all id_cmp id (filter p es))
          → IsTrue (below_all id_cmp id (cond t (e ∷ filter p es) (filter p es)))
      at_test true first h = and_from _ _ first h
      at_test false first h = h

  -- an entry that is new among those that pass a test
  filter-put : (p : OpId × X → Bool) (id : OpId) (v : X) (m : List (OpId × X)) → IsTrue (is_sorted id_cmp m)
      → find id_cmp id m ≡ None → filter p (put id_cmp id v m) ≡ cond (p (id, v)) (put id_cmp id v (filter p m)) (filter p m)
  filter-put p id v [] r none = refl
  filter-put p id v (e ∷ es) r none =
      let parts = and_parts (below_all id_cmp e.0 es) (is_sorted id_cmp es) r in
      elim (id_cmp id e.0) as
      (λ o. id_cmp id e.0 ≡ o → IsTrue (is_sorted id_cmp (by_order o ((id, v) ∷ e ∷ es) ((e.0, v) ∷ es) (e ∷ put id_cmp id v es)))
      → cond (is_eq o) (Some e.1) (find id_cmp id es) ≡ None
      → filter p (by_order o ((id, v) ∷ e ∷ es) ((e.0, v) ∷ es) (e ∷ put id_cmp id v es))
      ≡ cond (p (id, v)) (put id_cmp id v (filter p (e ∷ es))) (filter p (e ∷ es))) [
        | Less ↦ λ o rising absent.
            ap (λ l. cond (p (id, v)) l (filter p (e ∷ es)))
            (sym (put_below id v (filter p (e ∷ es)) (below_filter p id (e ∷ es)
            (and_parts (below_all id_cmp id (e ∷ es)) (is_sorted id_cmp (e ∷ es)) rising).0)))
        | Equal ↦ λ o rising absent. absurd (not_none e.1 absent)
        | Greater ↦ λ o rising absent. behind (p e) (p (id, v)) o (filter-put p id v es parts.1 absent)
      ] refl (rising_put id_cmp id_total id v (e ∷ es) r) none
    where
      not_none : (x : X) → Some x ≢ None
      not_none x h = cc

      behind : (t u : Bool) → id_cmp id e.0 ≡ Greater
          → filter p (put id_cmp id v es) ≡ cond u (put id_cmp id v (filter p es)) (filter p es)
          → cond t (e ∷ filter p (put id_cmp id v es)) (filter p (put id_cmp id v es))
          ≡ cond u (put id_cmp id v (cond t (e ∷ filter p es) (filter p es))) (cond t (e ∷ filter p es) (filter p es))
      behind true true o h = ap (λ l. e ∷ l) h
          ∙ sym (ap (λ r. by_order r ((id, v) ∷ e ∷ filter p es) ((e.0, v) ∷ filter p es) (e ∷ put id_cmp id v (filter p es))) o)
      behind true false o h = ap (λ l. e ∷ l) h
      behind false true o h = h
      behind false false o h = h

  pub filter-each : (p : OpId × X → Bool) (es m : List (OpId × X)) → IsTrue (is_sorted id_cmp m) → AreNew es m
      → put_each (filter p es) (filter p m) ≡ filter p (put_each es m)
  filter-each p [] m r new = refl
  filter-each p (e ∷ es) m r new =
      at_test (p e) (filter-each p es m r new.1) ∙ sym (filter-put p e.0 e.1 (put_each es m) (rising_each es m r) new.0)
    where
      at_test : (t : Bool) → put_each (filter p es) (filter p m) ≡ filter p (put_each es m)
          → put_each (cond t (e ∷ filter p es) (filter p es)) (filter p m)
          ≡ cond t (put id_cmp e.0 e.1 (filter p (put_each es m))) (filter p (put_each es m))
      at_test true h = ap (put id_cmp e.0 e.1) h
      at_test false h = h
