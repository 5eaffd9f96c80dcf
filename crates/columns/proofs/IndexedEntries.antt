-- Entries whose replicas are given by their indices in a table.
use Rattle.std.proofs.Common.{◌≡◌, ℕ, zero, suc, ◌<◌, ◌≤◌, Bool, true, false, cond, not, nat_lt, nat_le, ◌||◌, IsTrue, List, [], ◌∷◌}
use Rattle.std.proofs.Common.{length, get_or, map, Option, Some, slice_get, refl, sym, ap, ◌∙◌, arith}
use Rattle.std.specs.declared.cmp.Ordering.TheVariants.{Less, Equal, Greater}
use Rattle.std.specs.Ordering.{is_gt, is_eq}
use Rattle.std.specs.List.{All, insert, items_where_true}
use Rattle.std.specs.FinMap.{put, is_sorted}
use Rattle.std.specs.FinMap.Entries.{by_order, below_all}
use Rattle.std.proofs.lemmas.Bool.Decides.{nat_tests}
use Rattle.std.proofs.lemmas.Option.{slice_get_within, get_or_from_slice_get}
use Rattle.std.proofs.lemmas.Bool.{and_parts}
use Rattle.ids.specs.Members.{AreDistinct}
use Rattle.semantics.specs.Ids.{OpId, id_cmp}
use Rattle.semantics.specs.Vectors.{covers}
use Rattle.semantics.specs.Tables.{by_table, component}
use Rattle.semantics.specs.Context.{without}
use Rattle.semantics.proofs.TableVectors.{at-by_table}
use Rattle.version.specs.Columns.{is_uncovered}
use Rattle.version.proofs.TableColumns.{component-get}
use Rattle.columns.specs.Rank.{keys_of, rank, has_key}
use Rattle.columns.specs.Entries.{entries_of, id_of, indices_of, AreIndicesIn, put_index}
use Rattle.columns.specs.declared.entry.Entry.{Entry}
use Rattle.semantics.proofs.Orders.{id_total}
use Rattle.columns.proofs.Ranks.{below_chain, below_keys}
use Rattle.columns.proofs.Columns.{kept-map, insert-map, marks_of}

-- the replica of each entry
abbrev replicas : {X : Type 0} → List (OpId × X) → List (Option ℕ)
replicas es = map (λ e. Some e.0.replica) es

-- a vector's counter at the index of an id's replica tells whether the vector covers the id
pub covers-at : (table v : List ℕ) (id : OpId) (index : ℕ) → AreDistinct table → length table ≤ length v
    → slice_get table index ≡ Some id.replica
    → covers (by_table table v) id ≡ nat_le id.counter (get_or v index 0)
covers-at table v id index d w found =
    ap (λ n. nat_le id.counter n) (at-by_table table v d id.replica
    ∙ ap (component table v) (sym (get_or_from_slice_get table index id.replica 0 found))
    ∙ component-get table v index d (slice_get_within table index id.replica found) w)

module _ {X : Type 0} where
  -- a new entry's replica goes where the entry goes; else the replicas stay
  replicas-put : (id : OpId) (v : X) (es : List (OpId × X)) → IsTrue (is_sorted id_cmp es)
      → replicas (put id_cmp id v es)
      ≡ cond (has_key id_cmp id (keys_of es)) (replicas es) (insert (replicas es) (rank id_cmp id (keys_of es)) (Some id.replica))
  replicas-put id v [] s = refl
  replicas-put id v (e ∷ es) s =
      elim (id_cmp id e.0) as (λ r. id_cmp id e.0 ≡ r → replicas (by_order r ((id, v) ∷ e ∷ es) ((e.0, v) ∷ es) (e ∷ put id_cmp id v es))
      ≡ cond (is_eq r || has_key id_cmp id (keys_of es)) (Some e.0.replica ∷ replicas es)
      (insert (Some e.0.replica ∷ replicas es) (cond (is_gt r) (suc (rank id_cmp id (keys_of es))) 0) (Some id.replica))) [
        | Less ↦ λ r. ap (λ b. cond b (Some e.0.replica ∷ replicas es) (Some id.replica ∷ Some e.0.replica ∷ replicas es))
            (sym (below_chain id_cmp id_total id e.0 (keys_of es) r
            (below_keys id_cmp e.0 es ∙ (and_parts (below_all id_cmp e.0 es) (is_sorted id_cmp es) s).0)))
        | Equal ↦ λ r. refl
        | Greater ↦ λ r. at_test (has_key id_cmp id (keys_of es))
            (replicas-put id v es (and_parts (below_all id_cmp e.0 es) (is_sorted id_cmp es) s).1)
      ] refl
    where
      at_test : (b : Bool)
          → replicas (put id_cmp id v es) ≡ cond b (replicas es) (insert (replicas es) (rank id_cmp id (keys_of es)) (Some id.replica))
          → Some e.0.replica ∷ replicas (put id_cmp id v es)
          ≡ cond b (Some e.0.replica ∷ replicas es)
          (Some e.0.replica ∷ insert (replicas es) (rank id_cmp id (keys_of es)) (Some id.replica))
      at_test true h = ap (λ rs. Some e.0.replica ∷ rs) h
      at_test false h = ap (λ rs. Some e.0.replica ∷ rs) h

  pub stand_indexed-put : (table : List ℕ) (id : OpId) (index : ℕ) (v : X) (es : List (OpId × X)) (indices : List ℕ)
      → IsTrue (is_sorted id_cmp es)
      → slice_get table index ≡ Some id.replica → AreIndicesIn table es indices
      → AreIndicesIn table (put id_cmp id v es) (put_index id index (keys_of es) indices)
  stand_indexed-put table id index v es indices s at h = at_test (has_key id_cmp id (keys_of es)) ∙ sym (replicas-put id v es s)
    where
      at_test : (b : Bool)
          → map (slice_get table) (cond b indices (insert indices (rank id_cmp id (keys_of es)) index))
          ≡ cond b (replicas es) (insert (replicas es) (rank id_cmp id (keys_of es)) (Some id.replica))
      at_test true = h
      at_test false = insert-map (slice_get table) indices (rank id_cmp id (keys_of es)) index
          ∙ (λ i. insert (h i) (rank id_cmp id (keys_of es)) (at i))

  -- where the indices are those of a table, the marks tell what the vector covers
  pub marks-cover : (table v : List ℕ) (es : List (Entry X)) → AreDistinct table → length table ≤ length v
      → AreIndicesIn table (entries_of es) (indices_of es)
      → marks_of v es ≡ map (λ (e : OpId × X). not (covers (by_table table v) e.0)) (entries_of es)
  marks-cover table v [] d w s = refl
  marks-cover table v (e ∷ es) d w s =
      let here : slice_get table e.index ≡ Some e.replica = cc in
      let rest : AreIndicesIn table (entries_of es) (indices_of es) = cc in
      λ i. covered here i ∷ marks-cover table v es d w rest i
    where
      turned : (m n : ℕ) → nat_lt m n ≡ not (nat_le n m)
      turned m n = grind (arith, nat_tests)

      covered : slice_get table e.index ≡ Some e.replica
          → is_uncovered v (e.counter, e.index) ≡ not (covers (by_table table v) (id_of e))
      covered found = turned (get_or v e.index 0) e.counter ∙ ap not (sym (covers-at table v (id_of e) e.index d w found))

-- what a vector leaves of a single entry
pub single_without : {X : Type 0} (table v : List ℕ) (id : OpId) (index : ℕ) (x : X) → AreDistinct table → length table ≤ length v
    → AreIndicesIn table ((id, x) ∷ []) (index ∷ [])
    → without (covers (by_table table v)) ((id, x) ∷ []) ≡ cond (nat_le id.counter (get_or v index 0)) [] ((id, x) ∷ [])
single_without {X = X} table v id index x d w stand =
    let here : slice_get table index ≡ Some id.replica = cc in
    ap (λ b. cond (not b) ((id, x) ∷ []) []) (covers-at table v id index d w here) ∙ at_test (nat_le id.counter (get_or v index 0))
  where
    at_test : (b : Bool) → ◌≡◌ {A = List (OpId × X)} (cond (not b) ((id, x) ∷ []) []) (cond b [] ((id, x) ∷ []))
    at_test true = refl
    at_test false = refl

pub stand_indexed-kept : {X : Type 0} (table : List ℕ) (marks : List Bool) (es : List (OpId × X)) (indices : List ℕ)
    → AreIndicesIn table es indices → AreIndicesIn table (items_where_true marks es) (items_where_true marks indices)
stand_indexed-kept table marks es indices h =
    kept-map (slice_get table) marks indices ∙ ap (items_where_true marks) h ∙ sym (kept-map (λ e. Some e.0.replica) marks es)

-- indices of replicas in a table are within it
pub indices_within : {X : Type 0} (table : List ℕ) (es : List (OpId × X)) (indices : List ℕ) → AreIndicesIn table es indices
    → All (λ i. i < length table) indices
indices_within table es [] s = λ k d lt. absurd (omega arith)
indices_within table [] (i ∷ is) s = cc
indices_within table (e ∷ es) (i ∷ is) s =
    let here : slice_get table i ≡ Some e.0.replica = cc in
    let rest : AreIndicesIn table es is = cc in
    at_first (slice_get_within table i e.0.replica here) (indices_within table es is rest)
  where
    at_first : i < length table → All (λ j. j < length table) is → All (λ j. j < length table) (i ∷ is)
    at_first h rest zero d lt = h
    at_first h rest (suc k) d lt = rest k d (omega arith)

-- an index that is put within a bound
pub all_put_index : (n : ℕ) (id : OpId) (index : ℕ) (ids : List OpId) (indices : List ℕ) → All (λ i. i < n) indices → index < n
    → All (λ i. i < n) (put_index id index ids indices)
all_put_index n id index ids indices h lt = at_test (has_key id_cmp id ids)
  where
    first : (i : ℕ) (is : List ℕ) → i < n → All (λ j. j < n) is → All (λ j. j < n) (i ∷ is)
    first i is at rest zero d lt = at
    first i is at rest (suc k) d lt = rest k d (omega arith)

    inserted : (k : ℕ) (is : List ℕ) → All (λ i. i < n) is → All (λ i. i < n) (insert is k index)
    inserted zero is all = first index is lt all
    inserted (suc k) [] all = first index [] lt all
    inserted (suc k) (i ∷ is) all = first i (insert is k index) (all 0 i (omega arith))
        (inserted k is (λ j d within. all (suc j) d (omega arith)))

    at_test : (b : Bool) → All (λ i. i < n) (cond b indices (insert indices (rank id_cmp id ids) index))
    at_test true = h
    at_test false = inserted (rank id_cmp id ids) indices h
