-- A list's entries, each with its index, as one map.
use Rattle.std.proofs.Common.{◌≡◌, refl, sym, ap, ◌∙◌, ℕ, suc, Bool, true, false, true≢false, cond, ◌&&◌, ◌||◌, IsTrue, List, []}
use Rattle.std.proofs.Common.{◌∷◌}
use Rattle.std.proofs.Common.{length, map, arith, Less, Equal, Greater}
use Rattle.std.specs.Prelude.{Option, Some, None, option_map, unwrap_or}
use Rattle.std.specs.List.{insert}
use Rattle.std.specs.Ordering.{is_eq, is_gt, is_lt}
use Rattle.std.specs.FinMap.{find, put, is_sorted}
use Rattle.std.specs.FinMap.Entries.{below_all, by_order}
use Rattle.std.proofs.lemmas.Bool.{and_parts}
use Rattle.semantics.specs.Ids.{OpId, id_cmp, is_same_id}
use Rattle.semantics.proofs.Orders.{id_total}
use Rattle.cursor.specs.declared.tag.Tag.{Tag}
use Rattle.columns.specs.Entries.{put_index}
use Rattle.columns.specs.Rank.{has_key, keys_of, rank}
use Rattle.columns.specs.ReplicaColumns.{Standing, index_at, tags_of, with_indices}
use Rattle.columns.proofs.Ranks.{below_chain, below_keys}

below_with : (k : OpId) (es : List (OpId × Tag)) (indices : List ℕ) → length indices ≡ length es
    → below_all id_cmp k (with_indices es indices) ≡ below_all id_cmp k es
below_with k [] indices long = refl
below_with k (e ∷ es) [] long = absurd (omega (arith, long))
below_with k (e ∷ es) (i ∷ indices) long = ap (λ b. is_lt (id_cmp k e.0) && b) (below_with k es indices (omega (arith, long)))

-- they rise as the entries do
pub sorted_with : (es : List (OpId × Tag)) (indices : List ℕ) → length indices ≡ length es
    → is_sorted id_cmp (with_indices es indices) ≡ is_sorted id_cmp es
sorted_with [] indices long = refl
sorted_with (e ∷ es) [] long = absurd (omega (arith, long))
sorted_with (e ∷ es) (i ∷ indices) long =
    λ t. below_with e.0 es indices (omega (arith, long)) t && sorted_with es indices (omega (arith, long)) t

pub length_with : (es : List (OpId × Tag)) (indices : List ℕ) → length indices ≡ length es
    → length (with_indices es indices) ≡ length es
length_with [] indices long = refl
length_with (e ∷ es) [] long = absurd (omega (arith, long))
length_with (e ∷ es) (i ∷ indices) long = ap suc (length_with es indices (omega (arith, long)))

-- the entries and the indices again
pub tags_with : (es : List (OpId × Tag)) (indices : List ℕ) → length indices ≡ length es
    → tags_of (with_indices es indices) ≡ es
tags_with [] indices long = refl
tags_with (e ∷ es) [] long = absurd (omega (arith, long))
tags_with (e ∷ es) (i ∷ indices) long = ap (λ l. e ∷ l) (tags_with es indices (omega (arith, long)))

pub indices_with : (es : List (OpId × Tag)) (indices : List ℕ) → length indices ≡ length es
    → map (λ (e : OpId × Standing). e.1.1) (with_indices es indices) ≡ indices
indices_with [] [] long = refl
indices_with [] (i ∷ indices) long = absurd (omega (arith, long))
indices_with (e ∷ es) [] long = absurd (omega (arith, long))
indices_with (e ∷ es) (i ∷ indices) long = ap (λ l. i ∷ l) (indices_with es indices (omega (arith, long)))

-- what isn't among the entries isn't found
pub absent_with : (id : OpId) (es : List (OpId × Tag)) (indices : List ℕ) → has_key id_cmp id (keys_of es) ≡ false
    → find id_cmp id (with_indices es indices) ≡ None
absent_with id [] indices none = refl
absent_with id (e ∷ es) [] none = refl
absent_with id (e ∷ es) (i ∷ indices) none = at_test (is_same_id id e.0) none (absent_with id es indices)
  where
    at_test : (b : Bool) → (b || has_key id_cmp id (keys_of es)) ≡ false
        → (has_key id_cmp id (keys_of es) ≡ false → find id_cmp id (with_indices es indices) ≡ None)
        → cond b (Some (e.1, i)) (find id_cmp id (with_indices es indices)) ≡ None
    at_test true h rest = absurd (true≢false h)
    at_test false h rest = rest h

-- an entry that is put with its index
pub with_indices-put : (id : OpId) (index : ℕ) (tag : Tag) (es : List (OpId × Tag)) (indices : List ℕ) → length indices ≡ length es
    → IsTrue (is_sorted id_cmp es)
    → with_indices (put id_cmp id tag es) (put_index id index (keys_of es) indices)
    ≡ put id_cmp id (tag, index_at id index (with_indices es indices)) (with_indices es indices)
with_indices-put id index tag [] [] long r = refl
with_indices-put id index tag [] (i ∷ indices) long r = absurd (omega (arith, long))
with_indices-put id index tag (e ∷ es) [] long r = absurd (omega (arith, long))
with_indices-put id index tag (e ∷ es) (i ∷ indices) long r =
    let parts = and_parts (below_all id_cmp e.0 es) (is_sorted id_cmp es) r in
    elim (id_cmp id e.0) as
    (λ o. id_cmp id e.0 ≡ o
    → with_indices (by_order o ((id, tag) ∷ e ∷ es) ((e.0, tag) ∷ es) (e ∷ put id_cmp id tag es))
    (cond (is_eq o || has_key id_cmp id (keys_of es)) (i ∷ indices)
    (insert (i ∷ indices) (cond (is_gt o) (suc (rank id_cmp id (keys_of es))) 0) index))
    ≡ by_order o
    ((
      id,
      (
        tag,
        unwrap_or
            (option_map (λ (s : Standing). s.1) (cond (is_eq o) (Some (e.1, i)) (find id_cmp id (with_indices es indices)))) index,
      ),
    )
    ∷ (e.0, (e.1, i)) ∷ with_indices es indices)
    ((
      e.0,
      (
        tag,
        unwrap_or
            (option_map (λ (s : Standing). s.1) (cond (is_eq o) (Some (e.1, i)) (find id_cmp id (with_indices es indices)))) index,
      ),
    )
    ∷ with_indices es indices)
    ((e.0, (e.1, i)) ∷ put id_cmp id
    (tag, unwrap_or (option_map (λ (s : Standing). s.1) (cond (is_eq o) (Some (e.1, i)) (find id_cmp id (with_indices es indices)))) index)
    (with_indices es indices))) [
      | Less ↦ λ o.
          let absent : has_key id_cmp id (keys_of es) ≡ false = below_chain id_cmp id_total id e.0 (keys_of es) o
          (below_keys id_cmp e.0 es ∙ parts.0) in
          ap (λ b. with_indices ((id, tag) ∷ e ∷ es) (cond b (i ∷ indices) (index ∷ i ∷ indices))) absent
          ∙ ap (λ (f : Option Standing). (id, (tag, unwrap_or (option_map (λ (s : Standing). s.1) f) index)) ∷ (e.0, (e.1, i))
          ∷ with_indices es indices) (sym (absent_with id es indices absent))
      | Equal ↦ λ o. refl
      | Greater ↦ λ o. behind (has_key id_cmp id (keys_of es)) (with_indices-put id index tag es indices (omega (arith, long)) parts.1)
    ] refl
  where
    behind : (b : Bool)
        → with_indices (put id_cmp id tag es) (cond b indices (insert indices (rank id_cmp id (keys_of es)) index))
        ≡ put id_cmp id (tag, index_at id index (with_indices es indices)) (with_indices es indices)
        → with_indices (e ∷ put id_cmp id tag es) (cond b (i ∷ indices) (i ∷ insert indices (rank id_cmp id (keys_of es)) index))
        ≡ (e.0, (e.1, i)) ∷ put id_cmp id (tag, index_at id index (with_indices es indices)) (with_indices es indices)
    behind true h = ap (λ l. (e.0, (e.1, i)) ∷ l) h
    behind false h = ap (λ l. (e.0, (e.1, i)) ∷ l) h
