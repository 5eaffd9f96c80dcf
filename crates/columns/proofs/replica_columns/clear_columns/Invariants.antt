-- All of them filtered is what it was, and those so far are filtered.
use Rattle.std.proofs.Common.{◌≡◌, ◌<◌, Bool, List, ℕ, IsTrue, length, take}
use Rattle.std.specs.List.{All, filter}
use Rattle.semantics.specs.Ids.{OpId}
use Rattle.version.specs.Columns.{is_uncovered}
use Rattle.columns.specs.ReplicaColumns.{IsUpTo, Standing, is_rising, replicas_of, standing}
use Rattle.columns.specs.declared.replica_column.ReplicaColumn.{ReplicaColumn}
use Rattle.columns.proofs.replica_columns.clear_columns.Given as goal

-- the test of an id and what stands there
abbrev pub stays : List ℕ → OpId × Standing → Bool
stays v e = is_uncovered v (e.0.counter, e.1.1)

abbrev pub invariant-loop-place : goal.invariant-loop-place
invariant-loop-place l = record {
  same : filter (stays l.vector) (standing l.columns) ≡ filter (stays l.vector) (standing l.initial.columns);
  so_far : filter (stays l.vector) (standing (take l.place l.columns)) ≡ standing (take l.place l.columns);
  rising : All (λ (c : ReplicaColumn). IsTrue (is_rising c.counters.items)) l.columns;
  within : All (λ (c : ReplicaColumn). 0 < length c.counters.items → c.index < length l.vector) l.columns;
  up_to : (m : List (OpId × Standing)) → All (IsUpTo m) l.initial.columns → All (IsUpTo m) l.columns;
  replicas : replicas_of l.columns ≡ replicas_of l.initial.columns;
  counted : l.left ≡ length (standing l.columns);
  count : length l.columns ≡ l.place-end;
}
