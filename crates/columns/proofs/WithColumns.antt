-- A list and columns as one map.
use Rattle.std.proofs.Common.{◌≡◌, ◌≢◌, refl, sym, ap, ◌∙◌, subst, ℕ, zero, suc, ◌<◌, ◌≤◌, Bool, true, false, true≢false, cond, not}
use Rattle.std.proofs.Common.{◌&&◌, ◌||◌}
use Rattle.std.proofs.Common.{◌==◌, IsTrue, List, [], ◌∷◌, ◌++◌, map, length, get_or, slice_get, arith, tests, Less, Equal, Greater, nat_lt}
use Rattle.std.proofs.Common.{nat_le}
use Rattle.std.specs.Prelude.{Option, Some, None, is_some, IsSome, option_map, unwrap_or}
use Rattle.std.specs.List.{All, filter, insert, list_any, zip}
use Rattle.std.specs.Option.{option_or}
use Rattle.std.specs.Ordering.{is_eq, is_gt, is_lt, nat_cmp}
use Rattle.std.specs.FinMap.{find, put, is_sorted}
use Rattle.std.specs.FinMap.Entries.{below_all, by_order}
use Rattle.std.proofs.lemmas.Bool.{and_parts}
use Rattle.std.proofs.lemmas.Bool.Decides.{nat_tests}
use Rattle.ids.specs.Members.{AreDistinct, is_member}
use Rattle.semantics.specs.Ids.{OpId, id_at, id_cmp, is_same_id}
use Rattle.semantics.specs.Context.{without}
use Rattle.semantics.specs.Vectors.{covers}
use Rattle.semantics.specs.Tables.{by_table}
use Rattle.semantics.proofs.Orders.{id_total}
use Rattle.version.specs.Columns.{is_uncovered}
use Rattle.cursor.specs.declared.tag.Tag.{Tag}
use Rattle.columns.specs.Entries.{AreIndicesIn, Entries, put_index}
use Rattle.columns.specs.Rank.{as_set, has_key, keys_of, rank}
use Rattle.columns.specs.ReplicaColumns.{AreApart, IsUpTo, Standing, AreCounted, all_standing, index_at, is_rising, put_each, replicas_of}
use Rattle.columns.specs.ReplicaColumns.{standing}
use Rattle.columns.specs.ReplicaColumns.{standing_in}
use Rattle.columns.specs.ReplicaColumns.{tags_of, with_columns, with_indices}
use Rattle.columns.specs.declared.replica_column.ReplicaColumn.{ReplicaColumn}
use Rattle.columns.proofs.ByReplica.{find-run, find_no_column, run}
use Rattle.columns.proofs.IndexedEntries.{covers-at}
use Rattle.columns.proofs.ListPuts.{indices_with, sorted_with, tags_with}
use Rattle.columns.proofs.PutEach.{AreNew, filter-each, find-both, find-each}
use Rattle.columns.proofs.Ranks.{below_chain, below_keys}

-- ---- no id stands twice

none_or : {X : Type 0} (a b : Option X) → a ≡ None → b ≡ None → option_or a b ≡ None
none_or a b e f = ap (λ x. option_or x b) e ∙ f

module _ (p : ℕ) (s : Standing) (ys m : List (OpId × Standing)) (new : AreNew ys m)
    (elsewhere : (k : ℕ) → find id_cmp (id_at k p) ys ≡ None) where
  new_run : (ks : List ℕ) → IsTrue (is_rising ks)
      → ((k : ℕ) → list_any (λ j. j == k) ks ≡ true → find id_cmp (id_at k p) m ≡ None)
      → AreNew (run p s ks ++ ys) m
  new_run [] r apart = new
  new_run (k ∷ ks) r apart =
      let parts = and_parts (below_all nat_cmp k (as_set ks)) (is_rising ks) r in (
        find-each (id_at k p) (run p s ks ++ ys) m
            ∙ none_or _ _ (find-both (id_at k p) (run p s ks) ys ∙ none_or _ _ (find-run (id_at k p) p s ks
            ∙ ap (λ b. cond ((p == p) && b) (Some s) None) (above ks parts.0) ∙ none_at (p == p)) (elsewhere k))
            (apart k (ap (λ b. b || list_any (λ j. j == k) ks) (itself k))),
        new_run ks parts.1 (λ j there. apart j (later j there)),
      )
    where
      itself : (j : ℕ) → (j == j) ≡ true
      itself j = grind (arith, tests)

      none_at : (b : Bool) → cond (b && false) (Some s) None ≡ None
      none_at true = refl
      none_at false = refl

      later : (j : ℕ) → list_any (λ i. i == j) ks ≡ true → ((k == j) || list_any (λ i. i == j) ks) ≡ true
      later j there = at_test (k == j)
        where
          at_test : (b : Bool) → (b || list_any (λ i. i == j) ks) ≡ true
          at_test true = refl
          at_test false = there

      above : (js : List ℕ) → IsTrue (below_all nat_cmp k (as_set js)) → list_any (λ j. j == k) js ≡ false
      above [] b = refl
      above (j ∷ js) b =
          let parts = and_parts (is_lt (nat_cmp k j)) (below_all nat_cmp k (as_set js)) b in
          (λ t. greater j parts.0 t || above js parts.1 t)
        where
          greater : (i : ℕ) → is_lt (nat_cmp k i) ≡ true → (i == k) ≡ false
          greater i h = grind (arith, tests, h)

-- the ids of columns that stand apart
new_columns : (m : List (OpId × Standing)) (cs : List ReplicaColumn) → All (λ (c : ReplicaColumn). IsTrue (is_rising c.counters.items)) cs
    → AreDistinct (replicas_of cs) → ((q : OpId) → IsSome (find id_cmp q (standing cs)) → find id_cmp q m ≡ None) → AreNew (standing cs) m
new_columns m [] rising distinct apart = tt
new_columns m (c ∷ cs) rising distinct apart =
    new_run c.replica (c.tag, c.index) (standing cs) m
    (new_columns m cs (λ k d lt. rising (suc k) d (omega arith)) distinct.1 (λ q some. apart q (in_rest q some)))
    (λ k. find_no_column (id_at k c.replica) cs (no_member (is_member (replicas_of cs) c.replica) distinct.0))
    c.counters.items (rising 0 c (omega arith)) (λ k there. apart (id_at k c.replica) (in_column k there))
  where
    no_member : (b : Bool) → (b ≡ true → ⊥) → b ≡ false
    no_member true h = absurd (h refl)
    no_member false h = refl

    in_rest : (q : OpId) → IsSome (find id_cmp q (standing cs)) → IsSome (find id_cmp q (standing (c ∷ cs)))
    in_rest q some = ap is_some (find-both q (standing_in c) (standing cs)) ∙ either (find id_cmp q (standing_in c))
      where
        either : (o : Option Standing) → is_some (option_or o (find id_cmp q (standing cs))) ≡ true
        either None = some
        either (Some x) = refl

    in_column : (k : ℕ) → list_any (λ j. j == k) c.counters.items ≡ true → IsSome (find id_cmp (id_at k c.replica) (standing (c ∷ cs)))
    in_column k there = ap is_some (find-both (id_at k c.replica) (standing_in c) (standing cs)
        ∙ ap (λ o. option_or o (find id_cmp (id_at k c.replica) (standing cs))) (find-run (id_at k c.replica) c.replica (c.tag, c.index)
        c.counters.items ∙ (λ t. cond (itself c.replica t && there t) (Some (c.tag, c.index)) None)))
      where
        itself : (j : ℕ) → (j == j) ≡ true
        itself j = grind (arith, tests)

pub are_new : (L : Entries Tag) (cs : List ReplicaColumn) → AreApart L cs → AreNew (standing cs) (with_indices L.entries L.indices)
are_new L cs a = new_columns (with_indices L.entries L.indices) cs a.rising a.distinct a.apart

-- ---- what callers see

pub sorted_tags : (m : List (OpId × Standing)) → is_sorted id_cmp (tags_of m) ≡ is_sorted id_cmp m
sorted_tags [] = refl
sorted_tags (e ∷ es) = λ t. below e.0 es t && sorted_tags es t
  where
    below : (k : OpId) (xs : List (OpId × Standing)) → below_all id_cmp k (tags_of xs) ≡ below_all id_cmp k xs
    below k [] = refl
    below k (x ∷ xs) = ap (λ b. is_lt (id_cmp k x.0) && b) (below k xs)

pub tags-put : (id : OpId) (s : Standing) (m : List (OpId × Standing)) → tags_of (put id_cmp id s m) ≡ put id_cmp id s.0 (tags_of m)
tags-put id s [] = refl
tags-put id s (e ∷ es) =
    elim (id_cmp id e.0) as
    (λ o. tags_of (by_order o ((id, s) ∷ e ∷ es) ((e.0, s) ∷ es) (e ∷ put id_cmp id s es))
    ≡ by_order o ((id, s.0) ∷ tags_of (e ∷ es)) ((e.0, s.0) ∷ tags_of es) ((e.0, e.1.0) ∷ put id_cmp id s.0 (tags_of es))) [
      | Less ↦ refl
      | Equal ↦ refl
      | Greater ↦ ap (λ l. (e.0, e.1.0) ∷ l) (tags-put id s es)
    ]

pub tags-each : (es m : List (OpId × Standing)) → tags_of (put_each es m) ≡ put_each (tags_of es) (tags_of m)
tags-each [] m = refl
tags-each (e ∷ es) m = tags-put e.0 e.1 (put_each es m) ∙ ap (put id_cmp e.0 e.1.0) (tags-each es m)

-- the index of each
abbrev pub indices_in : List (OpId × Standing) → List ℕ
indices_in m = map (λ e. e.1.1) m

key_of_tags : (id : OpId) (m : List (OpId × Standing)) → has_key id_cmp id (keys_of (tags_of m)) ≡ false → find id_cmp id m ≡ None
key_of_tags id [] none = refl
key_of_tags id (e ∷ es) none = at_test (is_same_id id e.0) none (key_of_tags id es)
  where
    at_test : (b : Bool) → (b || has_key id_cmp id (keys_of (tags_of es))) ≡ false
        → (has_key id_cmp id (keys_of (tags_of es)) ≡ false → find id_cmp id es ≡ None)
        → cond b (Some e.1) (find id_cmp id es) ≡ None
    at_test true h rest = absurd (true≢false h)
    at_test false h rest = rest h

-- the index of an entry that is put goes where the entry goes; one that is there keeps its index
pub indices-put : (id : OpId) (index : ℕ) (tag : Tag) (m : List (OpId × Standing)) → IsTrue (is_sorted id_cmp m)
    → indices_in (put id_cmp id (tag, index_at id index m) m) ≡ put_index id index (keys_of (tags_of m)) (indices_in m)
indices-put id index tag [] r = refl
indices-put id index tag (e ∷ es) r =
    let parts = and_parts (below_all id_cmp e.0 es) (is_sorted id_cmp es) r in
    elim (id_cmp id e.0) as
    (λ o. id_cmp id e.0 ≡ o
    → indices_in (by_order o
    ((id, (tag, unwrap_or (option_map (λ (s : Standing). s.1) (cond (is_eq o) (Some e.1) (find id_cmp id es))) index)) ∷ e ∷ es)
    ((e.0, (tag, unwrap_or (option_map (λ (s : Standing). s.1) (cond (is_eq o) (Some e.1) (find id_cmp id es))) index)) ∷ es)
    (e ∷ put id_cmp id (tag, unwrap_or (option_map (λ (s : Standing). s.1) (cond (is_eq o) (Some e.1) (find id_cmp id es))) index) es))
    ≡ cond (is_eq o || has_key id_cmp id (keys_of (tags_of es))) (e.1.1 ∷ indices_in es)
    (insert (e.1.1 ∷ indices_in es) (cond (is_gt o) (suc (rank id_cmp id (keys_of (tags_of es)))) 0) index)) [
      | Less ↦ λ o.
          let absent : has_key id_cmp id (keys_of (tags_of es)) ≡ false = below_chain id_cmp id_total id e.0 (keys_of (tags_of es)) o
          (below_keys id_cmp e.0 (tags_of es) ∙ (and_parts (below_all id_cmp e.0 (tags_of es)) (is_sorted id_cmp (tags_of es))
          (sorted_tags (e ∷ es) ∙ r)).0) in
          ap (λ (f : Option Standing). unwrap_or (option_map (λ (s : Standing). s.1) f) index ∷ e.1.1 ∷ indices_in es)
          (key_of_tags id es absent)
          ∙ ap (λ b. cond b (e.1.1 ∷ indices_in es) (index ∷ e.1.1 ∷ indices_in es)) (sym absent)
      | Equal ↦ λ o. refl
      | Greater ↦ λ o. behind (has_key id_cmp id (keys_of (tags_of es))) (indices-put id index tag es parts.1)
    ] refl
  where
    behind : (b : Bool)
        → indices_in (put id_cmp id (tag, index_at id index es) es)
        ≡ cond b (indices_in es) (insert (indices_in es) (rank id_cmp id (keys_of (tags_of es))) index)
        → e.1.1 ∷ indices_in (put id_cmp id (tag, index_at id index es) es)
        ≡ cond b (e.1.1 ∷ indices_in es) (e.1.1 ∷ insert (indices_in es) (rank id_cmp id (keys_of (tags_of es))) index)
    behind true h = ap (λ l. e.1.1 ∷ l) h
    behind false h = ap (λ l. e.1.1 ∷ l) h

-- ---- what a vector leaves

-- the vector doesn't cover the id
abbrev pub stays : List ℕ → OpId × Standing → Bool
stays v e = is_uncovered v (e.0.counter, e.1.1)

pub kept_zip : (v : List ℕ) (m : List (OpId × Standing))
    → zip (tags_of (filter (stays v) m)) (indices_in (filter (stays v) m))
    ≡ filter (λ e. is_uncovered v (e.0.0.counter, e.1)) (zip (tags_of m) (indices_in m))
kept_zip v [] = refl
kept_zip v (e ∷ es) = at_test (stays v e) (kept_zip v es)
  where
    at_test : (b : Bool)
        → zip (tags_of (filter (stays v) es)) (indices_in (filter (stays v) es))
        ≡ filter (λ x. is_uncovered v (x.0.0.counter, x.1)) (zip (tags_of es) (indices_in es))
        → zip (tags_of (cond b (e ∷ filter (stays v) es) (filter (stays v) es)))
        (indices_in (cond b (e ∷ filter (stays v) es) (filter (stays v) es)))
        ≡ cond b (((e.0, e.1.0), e.1.1) ∷ filter (λ x. is_uncovered v (x.0.0.counter, x.1)) (zip (tags_of es) (indices_in es)))
        (filter (λ x. is_uncovered v (x.0.0.counter, x.1)) (zip (tags_of es) (indices_in es)))
    at_test true h = ap (λ l. ((e.0, e.1.0), e.1.1) ∷ l) h
    at_test false h = h

pub kept_without : (table v : List ℕ) (m : List (OpId × Standing)) → AreDistinct table → length table ≤ length v
    → AreIndicesIn table (tags_of m) (indices_in m)
    → tags_of (filter (stays v) m) ≡ without (covers (by_table table v)) (tags_of m)
kept_without table v [] d w stand = refl
kept_without table v (e ∷ es) d w stand =
    let here : slice_get table e.1.1 ≡ Some e.0.replica = cc in
    let rest : AreIndicesIn table (tags_of es) (indices_in es) = cc in
    at_test (stays v e) (not (covers (by_table table v) e.0)) (turned (get_or v e.1.1 0) e.0.counter
    ∙ ap not (sym (covers-at table v e.0 e.1.1 d w here))) (kept_without table v es d w rest)
  where
    turned : (m n : ℕ) → nat_lt m n ≡ not (nat_le n m)
    turned m n = grind (arith, nat_tests)

    at_test : (b c : Bool) → b ≡ c → tags_of (filter (stays v) es) ≡ without (covers (by_table table v)) (tags_of es)
        → tags_of (cond b (e ∷ filter (stays v) es) (filter (stays v) es))
        ≡ cond c ((e.0, e.1.0) ∷ without (covers (by_table table v)) (tags_of es)) (without (covers (by_table table v)) (tags_of es))
    at_test true true same h = ap (λ l. (e.0, e.1.0) ∷ l) h
    at_test true false same h = absurd (true≢false same)
    at_test false true same h = absurd (true≢false (sym same))
    at_test false false same h = h

pub kept_indexed : (table v : List ℕ) (m : List (OpId × Standing)) → AreIndicesIn table (tags_of m) (indices_in m)
    → AreIndicesIn table (tags_of (filter (stays v) m)) (indices_in (filter (stays v) m))
kept_indexed table v [] stand = refl
kept_indexed table v (e ∷ es) stand =
    let here : slice_get table e.1.1 ≡ Some e.0.replica = cc in
    let rest : AreIndicesIn table (tags_of es) (indices_in es) = cc in
    at_test (stays v e) here (kept_indexed table v es rest)
  where
    at_test : (b : Bool) → slice_get table e.1.1 ≡ Some e.0.replica
        → AreIndicesIn table (tags_of (filter (stays v) es)) (indices_in (filter (stays v) es))
        → AreIndicesIn table (tags_of (cond b (e ∷ filter (stays v) es) (filter (stays v) es)))
        (indices_in (cond b (e ∷ filter (stays v) es) (filter (stays v) es)))
    at_test true here h = λ t. here t ∷ h t
    at_test false here h = h

-- what a clear of the list leaves of it
pub listed_kept : (v : List ℕ) (es new : List (OpId × Tag)) (indices left : List ℕ) → length indices ≡ length es → length left ≡ length new
    → zip new left ≡ filter (λ e. is_uncovered v (e.0.0.counter, e.1)) (zip es indices)
    → with_indices new left ≡ filter (stays v) (with_indices es indices)
listed_kept v es new indices left long short kept =
    by_zip new left ∙ ap (map turned) kept ∙ filtered (zip es indices) ∙ ap (filter (stays v)) (sym (by_zip es indices))
  where
    turned : (OpId × Tag) × ℕ → OpId × Standing
    turned e = (e.0.0, (e.0.1, e.1))

    by_zip : (xs : List (OpId × Tag)) (is : List ℕ) → with_indices xs is ≡ map turned (zip xs is)
    by_zip [] is = refl
    by_zip (x ∷ xs) [] = refl
    by_zip (x ∷ xs) (i ∷ is) = ap (λ l. (x.0, (x.1, i)) ∷ l) (by_zip xs is)

    filtered : (zs : List ((OpId × Tag) × ℕ))
        → map turned (filter (λ e. is_uncovered v (e.0.0.counter, e.1)) zs) ≡ filter (stays v) (map turned zs)
    filtered [] = refl
    filtered (z ∷ zs) = at_test (is_uncovered v (z.0.0.counter, z.1)) (filtered zs)
      where
        at_test : (b : Bool) → map turned (filter (λ e. is_uncovered v (e.0.0.counter, e.1)) zs) ≡ filter (stays v) (map turned zs)
            → map turned
            (cond b (z ∷ filter (λ e. is_uncovered v (e.0.0.counter, e.1)) zs) (filter (λ e. is_uncovered v (e.0.0.counter, e.1)) zs))
            ≡ cond b (turned z ∷ filter (stays v) (map turned zs)) (filter (stays v) (map turned zs))
        at_test true h = ap (λ l. turned z ∷ l) h
        at_test false h = h

-- ---- what holds of each index

put_own : (P : ℕ → Type 0) (id : OpId) (s : Standing) (m : List (OpId × Standing)) → All P (indices_in (put id_cmp id s m)) → P s.1
put_own P id s [] = λ all. all 0 0 (omega arith)
put_own P id s (e ∷ es) =
    elim (id_cmp id e.0) as
    (λ o. All P (indices_in (by_order o ((id, s) ∷ e ∷ es) ((e.0, s) ∷ es) (e ∷ put id_cmp id s es))) → P s.1) [
      | Less ↦ λ all. all 0 0 (omega arith)
      | Equal ↦ λ all. all 0 0 (omega arith)
      | Greater ↦ λ all. put_own P id s es (λ k d lt. all (suc k) d (omega arith))
    ]

put_others : (P : ℕ → Type 0) (id : OpId) (s : Standing) (m : List (OpId × Standing)) → find id_cmp id m ≡ None
    → All P (indices_in (put id_cmp id s m)) → All P (indices_in m)
put_others P id s [] none all = λ k d lt. absurd (omega arith)
put_others P id s (e ∷ es) none all =
    elim (id_cmp id e.0) as
    (λ o. cond (is_eq o) (Some e.1) (find id_cmp id es) ≡ None
    → All P (indices_in (by_order o ((id, s) ∷ e ∷ es) ((e.0, s) ∷ es) (e ∷ put id_cmp id s es)))
    → All P (indices_in (e ∷ es))) [
      | Less ↦ λ h a. λ k d lt. a (suc k) d (omega arith)
      | Equal ↦ λ h a. absurd (not_none e.1 h)
      | Greater ↦ λ h a. joined (a 0 0 (omega arith)) (put_others P id s es h (λ k d lt. a (suc k) d (omega arith)))
    ] none all
  where
    not_none : (x : Standing) → Some x ≢ None
    not_none x h = cc

    joined : P e.1.1 → All P (indices_in es) → All P (indices_in (e ∷ es))
    joined first rest zero d lt = first
    joined first rest (suc k) d lt = rest k d (omega arith)

pub each_beside : (P : ℕ → Type 0) (es m : List (OpId × Standing)) → AreNew es m → All P (indices_in (put_each es m)) → All P (indices_in m)
each_beside P [] m new all = all
each_beside P (e ∷ es) m new all = each_beside P es m new.1 (put_others P e.0 e.1 (put_each es m) new.0 all)

pub each_own : (P : ℕ → Type 0) (es m : List (OpId × Standing)) → AreNew es m → All P (indices_in (put_each es m)) → All P (indices_in es)
each_own P [] m new all = λ k d lt. absurd (omega arith)
each_own P (e ∷ es) m new all = joined (put_own P e.0 e.1 (put_each es m) all)
    (each_own P es m new.1 (put_others P e.0 e.1 (put_each es m) new.0 all))
  where
    joined : P e.1.1 → All P (indices_in es) → All P (indices_in (e ∷ es))
    joined first rest zero d lt = first
    joined first rest (suc k) d lt = rest k d (omega arith)

pub each_column : (P : ℕ → Type 0) (cs : List ReplicaColumn) → All P (indices_in (standing cs))
    → All (λ (c : ReplicaColumn). 0 < length c.counters.items → P c.index) cs
each_column P [] all = λ k d lt. absurd (omega arith)
each_column P (c ∷ cs) all = joined (first c.counters.items all) (each_column P cs (behind c.counters.items all))
  where
    first : (ks : List ℕ) → All P (indices_in (run c.replica (c.tag, c.index) ks ++ standing cs)) → 0 < length ks → P c.index
    first [] a some = absurd (omega arith)
    first (k ∷ ks) a some = a 0 0 (omega arith)

    behind : (ks : List ℕ) → All P (indices_in (run c.replica (c.tag, c.index) ks ++ standing cs)) → All P (indices_in (standing cs))
    behind [] a = a
    behind (k ∷ ks) a = behind ks (λ j d lt. a (suc j) d (omega arith))

    joined : (0 < length c.counters.items → P c.index) → All (λ (d : ReplicaColumn). 0 < length d.counters.items → P d.index) cs
        → All (λ (d : ReplicaColumn). 0 < length d.counters.items → P d.index) (c ∷ cs)
    joined here rest zero d lt = here
    joined here rest (suc k) d lt = rest k d (omega arith)

-- ---- a list that is held in place of nothing

pub nothing_put : (es m : List (OpId × Standing)) → tags_of (put_each es m) ≡ [] → es ≡ []
nothing_put [] m = λ none. refl
nothing_put (e ∷ es) m = λ none. absurd (some e.0 e.1 (put_each es m) none)
  where
    some : (id : OpId) (s : Standing) (xs : List (OpId × Standing)) → tags_of (put id_cmp id s xs) ≢ []
    some id s [] = λ h. cc
    some id s (x ∷ xs) = elim (id_cmp id x.0) as
        (λ o. tags_of (by_order o ((id, s) ∷ x ∷ xs) ((x.0, s) ∷ xs) (x ∷ put id_cmp id s xs)) ≢ []) [
          | Less ↦ λ h. cc
          | Equal ↦ λ h. cc
          | Greater ↦ λ h. cc
        ]

-- without columns the list is what callers see
pub held : (L : Entries Tag) (cs : List ReplicaColumn) → standing cs ≡ [] → length L.indices ≡ length L.entries → with_columns L cs ≡ L
held L cs none long = λ t. record {
  entries = (ap (λ es. tags_of (put_each es (with_indices L.entries L.indices))) none ∙ tags_with L.entries L.indices long) t;
  indices = (ap (λ es. indices_in (put_each es (with_indices L.entries L.indices))) none ∙ indices_with L.entries L.indices long) t;
  room = L.room;
}

-- ---- what is found among those that pass a test

find_filter_none : (p : OpId × Standing → Bool) (q : OpId) (m : List (OpId × Standing)) → find id_cmp q m ≡ None
    → find id_cmp q (filter p m) ≡ None
find_filter_none p q [] none = refl
find_filter_none p q (e ∷ es) none = at_tests (is_same_id q e.0) refl (p e) none (find_filter_none p q es)
  where
    at_tests : (b : Bool) → is_same_id q e.0 ≡ b → (t : Bool) → cond b (Some e.1) (find id_cmp q es) ≡ None
        → (find id_cmp q es ≡ None → find id_cmp q (filter p es) ≡ None)
        → find id_cmp q (cond t (e ∷ filter p es) (filter p es)) ≡ None
    at_tests true same t h rest = absurd (not_none e.1 h)
      where
        not_none : (x : Standing) → Some x ≢ None
        not_none x n = cc
    at_tests false other true h rest = ap (λ b. cond b (Some e.1) (find id_cmp q (filter p es))) other ∙ rest h
    at_tests false other false h rest = rest h

some_filtered : (p : OpId × Standing → Bool) (q : OpId) (m : List (OpId × Standing)) → IsSome (find id_cmp q (filter p m))
    → IsSome (find id_cmp q m)
some_filtered p q m some = at_found (find id_cmp q m) refl
  where
    at_found : (o : Option Standing) → find id_cmp q m ≡ o → is_some o ≡ true
    at_found None none = absurd (true≢false (sym some ∙ ap is_some (find_filter_none p q m none)))
    at_found (Some x) found = refl

length_filter : (p : OpId × Standing → Bool) (m : List (OpId × Standing)) → length (filter p m) ≤ length m
length_filter p [] = omega arith
length_filter p (e ∷ es) = at_test (p e) (length_filter p es)
  where
    at_test : (b : Bool) → length (filter p es) ≤ length es → length (cond b (e ∷ filter p es) (filter p es)) ≤ suc (length es)
    at_test true h = omega (arith, h)
    at_test false h = omega (arith, h)

-- a list and columns of which each keeps what a vector doesn't cover
module _ (v : List ℕ) (L N : Entries Tag) (cs ds : List ReplicaColumn) (count left : ℕ) (a : AreCounted L cs count)
    (long : length L.indices ≡ length L.entries) (short : length N.indices ≡ length N.entries)
    (list : zip N.entries N.indices ≡ filter (λ e. is_uncovered v (e.0.0.counter, e.1)) (zip L.entries L.indices))
    (columns : standing ds ≡ filter (stays v) (standing cs)) where
  listed_now : with_indices N.entries N.indices ≡ filter (stays v) (with_indices L.entries L.indices)
  listed_now = listed_kept v L.entries N.entries L.indices N.indices long short list

  pub all_kept : IsTrue (is_sorted id_cmp L.entries) → all_standing N ds ≡ filter (stays v) (all_standing L cs)
  all_kept rising = (λ t. put_each (columns t) (listed_now t))
      ∙ filter-each (stays v) (standing cs) (with_indices L.entries L.indices) (sorted_with L.entries L.indices long ∙ rising)
      (are_new L cs a.apart)

  pub counted_kept : All (λ (c : ReplicaColumn). IsTrue (is_rising c.counters.items)) ds → replicas_of ds ≡ replicas_of cs
      → ((m : List (OpId × Standing)) → All (IsUpTo m) cs → All (IsUpTo m) ds) → IsTrue (is_sorted id_cmp L.entries)
      → left ≡ length (standing ds) → AreCounted N ds left
  counted_kept rising same up sorted counted =
      let before = a.counted in
      let most = a.few in
      let fewer = length_filter (stays v) (standing cs) in
      let now = ap (λ (m : List (OpId × Standing)). length m) columns in
      record {
        apart = record {
          rising = rising;
          distinct = subst AreDistinct (sym same) a.apart.distinct;
          apart = λ q some. ap (find id_cmp q) listed_now ∙ find_filter_none (stays v) q (with_indices L.entries L.indices)
              (a.apart.apart q (some_filtered (stays v) q (standing cs) (ap (λ m. is_some (find id_cmp q m)) (sym columns) ∙ some)));
        };
        up_to = λ k d lt q mine some. up (all_standing L cs) a.up_to k d lt q mine
            (some_filtered (stays v) q (all_standing L cs) (ap (λ m. is_some (find id_cmp q m)) (sym (all_kept sorted)) ∙ some));
        counted = counted;
        few = omega (arith, before, most, fewer, now, counted);
      }
