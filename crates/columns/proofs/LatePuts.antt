-- An id above the bound of its column that goes into the list, while the column notes it.
use Rattle.std.proofs.Common.{◌≡◌, ◌≢◌, sym, ap, ◌∙◌, ℕ, ◌<◌, IsTrue, List, length, get_or, set, slice_get, arith}
use Rattle.std.specs.Prelude.{Option, Some, None, option_map, unwrap_or}
use Rattle.std.specs.Option.{option_or}
use Rattle.std.specs.FinMap.{find, put, is_sorted}
use Rattle.std.proofs.Math.Seq.{map-set_same}
use Rattle.semantics.specs.Ids.{OpId, id_cmp}
use Rattle.cursor.specs.declared.tag.Tag.{Tag}
use Rattle.columns.specs.Entries.{Entries, put_index}
use Rattle.columns.specs.Rank.{keys_of}
use Rattle.columns.specs.ReplicaColumns.{AreCounted, IsSameColumn, Standing, all_standing, index_at, replicas_of, standing}
use Rattle.columns.specs.declared.replica_column.ReplicaColumn.{ReplicaColumn}
use Rattle.columns.proofs.PutEach.{find-each}
use Rattle.columns.proofs.StandingPuts.{apart_listed, listed, put_listed}
use Rattle.columns.proofs.UpTo.{in_no_column, up_to_written}
use Rattle.columns.proofs.WrittenColumns.{apart_set_same, same_column, standing_set_same}

module _ (L N : Entries Tag) (cs : List ReplicaColumn) (i : ℕ) (c d : ReplicaColumn) (id : OpId) (index : ℕ) (tag : Tag) (count : ℕ)
    (a : AreCounted L cs count) (lt : i < length cs) (read : c ≡ get_or cs i c) (at : slice_get (replicas_of cs) i ≡ Some id.replica)
    (mine : c.replica ≡ id.replica) (greater : c.greatest < id.counter) (same : IsSameColumn c d)
    (items : d.counters.items ≡ c.counters.items) (own : d.greatest ≡ id.counter)
    (r : IsTrue (is_sorted id_cmp L.entries)) (long : length L.indices ≡ length L.entries)
    (entries : N.entries ≡ put id_cmp id tag L.entries) (indices : N.indices ≡ put_index id index (keys_of L.entries) L.indices) where
  same_ids : standing (set cs i d) ≡ standing cs
  same_ids = standing_set_same cs i c d read (same_column c d same items)

  none : find id_cmp id (standing cs) ≡ None
  none = in_no_column L cs i c id lt read a.apart a.up_to at mine greater

  gone : find id_cmp id (standing (set cs i d)) ≡ None
  gone = ap (find id_cmp id) same_ids ∙ none

  beside : (q : OpId) → q ≢ id → find id_cmp q (standing (set cs i d)) ≡ find id_cmp q (standing cs)
  beside q h = ap (find id_cmp q) same_ids

  pub listed_standing : all_standing N (set cs i d) ≡ put id_cmp id (tag, index_at id index (all_standing L cs)) (all_standing L cs)
  listed_standing = put_listed L N cs (set cs i d) id index tag r long entries indices gone beside index
      (ap (λ (o : Option Standing). unwrap_or (option_map (λ s. s.1) o) index)
      (sym (find-each id (standing cs) (listed L) ∙ ap (λ o. option_or o (find id_cmp id (listed L))) none)))

  pub listed_counted : AreCounted N (set cs i d) count
  listed_counted = record {
    apart = apart_listed L N cs (set cs i d) id index tag r long entries indices gone beside a.apart
        (apart_set_same L cs i c d lt read same items a.apart).rising
        (map-set_same (λ (x : ReplicaColumn). x.replica) cs i d c (same.replica ∙ ap (λ (x : ReplicaColumn). x.replica) read));
    up_to = up_to_written (all_standing L cs) (all_standing N (set cs i d)) id (tag, index_at id index (all_standing L cs)) listed_standing
        cs a.up_to i c d lt read a.apart.distinct at same.replica (omega (arith, greater, own)) (omega (arith, own));
    counted = a.counted ∙ ap (λ (m : List (OpId × Standing)). length m) (sym same_ids);
    few = a.few;
  }
