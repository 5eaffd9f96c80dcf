-- Ids of which those of each replica stand apart.
use Rattle.std.specs.Prelude.{◌≡◌, ◌<◌, ◌≤◌, ℕ, Bool, IsTrue, IsSome, List, [], ◌∷◌, ◌++◌, map, length, None, Some, slice_get, unwrap_or}
use Rattle.std.specs.Prelude.{option_map}
use Rattle.std.specs.List.{All, list_any}
use Rattle.std.specs.Ordering.{nat_cmp}
use Rattle.std.specs.FinMap.{find, put, is_sorted}
use Rattle.std.specs.FinMap.Entries.{below_all}
use Rattle.ids.specs.Members.{AreDistinct}
use Rattle.semantics.specs.Ids.{OpId, id_at, id_cmp}
use Rattle.semantics.specs.Elements.{Tag as TheTag}
use Rattle.semantics.specs.Glances.{is_same_tag}
use Rattle.cursor.specs.declared.tag.Tag.{Tag}
use Rattle.cursor.specs.Steps.{tag_of}
use Rattle.columns.specs.Rank.{as_set}
use Rattle.columns.specs.Entries.{Entries}
use Rattle.columns.specs.declared.replica_column.ReplicaColumn.{ReplicaColumn}

-- what stands at an id: its tag, and the index of its replica in the table
abbrev pub Standing : Type 0
Standing = Tag × ℕ

-- a column of the same replica, with the same index and tag
pub record IsSameColumn (old new : ReplicaColumn) : Type 0 where
  pub replica : new.replica ≡ old.replica
  pub index : new.index ≡ old.index
  pub tag : new.tag ≡ old.tag

-- each counter is greater than the one before it
abbrev pub is_rising : List ℕ → Bool
is_rising counters = is_sorted nat_cmp (as_set counters)

-- the ids of a column with what stands at each
abbrev pub standing_in : ReplicaColumn → List (OpId × Standing)
standing_in c = map (λ k. (id_at k c.replica, (c.tag, c.index))) c.counters.items

-- the ids of all columns, one column after the other
abbrev pub standing : List ReplicaColumn → List (OpId × Standing)
standing [] = []
standing (c ∷ cs) = standing_in c ++ standing cs

-- entries, each with its index
abbrev pub with_indices : List (OpId × Tag) → List ℕ → List (OpId × Standing)
with_indices [] indices = []
with_indices (e ∷ es) [] = []
with_indices (e ∷ es) (i ∷ indices) = (e.0, (e.1, i)) ∷ with_indices es indices

-- a map by id, and each of these put where it belongs
abbrev pub put_each : {X : Type 0} → List (OpId × X) → List (OpId × X) → List (OpId × X)
put_each [] m = m
put_each (e ∷ es) m = put id_cmp e.0 e.1 (put_each es m)

-- Of a map the entries before an id went behind those before, and others are left: with the id in front of them, and what is put behind
-- it, that is the map with all of these put.
abbrev pub GoesBetween : {X : Type 0} → OpId → List (OpId × X) → List (OpId × X) → List (OpId × X) → List (OpId × X) → Type 0
GoesBetween {X} id before m after left = (v : X) (es : List (OpId × X)) → IsTrue (below_all id_cmp id es)
    → after ++ (id, v) ∷ put_each es left ≡ before ++ put_each ((id, v) ∷ es) m

-- the ids of a list and of columns, rising
abbrev pub all_standing : Entries Tag → List ReplicaColumn → List (OpId × Standing)
all_standing list columns = put_each (standing columns) (with_indices list.entries list.indices)

-- each id with its tag alone
abbrev pub tags_of : List (OpId × Standing) → List (OpId × Tag)
tags_of m = map (λ e. (e.0, e.1.0)) m

-- a list and columns as one map, which has the room of the list
abbrev pub with_columns : Entries Tag → List ReplicaColumn → Entries Tag
with_columns list columns = record {
  entries = tags_of (all_standing list columns);
  indices = map (λ e. e.1.1) (all_standing list columns);
  room = list.room;
}

-- each replica has one column at most, in which its counters rise, and no id stands in a column and in the list
pub record AreApart (list : Entries Tag) (columns : List ReplicaColumn) : Type 0 where
  pub rising : All (λ c. IsTrue (is_rising c.counters.items)) columns
  pub distinct : AreDistinct (map (λ c. c.replica) columns)
  pub apart : (id : OpId) → IsSome (find id_cmp id (standing columns)) → find id_cmp id (with_indices list.entries list.indices) ≡ None

-- the ids of the column's replica have no counter above the greatest that the column knows
abbrev pub IsUpTo : List (OpId × Standing) → ReplicaColumn → Type 0
IsUpTo m c = (id : OpId) → id.replica ≡ c.replica → IsSome (find id_cmp id m) → id.counter ≤ c.greatest

-- they stand apart, each column knows a bound of its replica's counters, and this many ids stand in columns
pub record AreCounted (list : Entries Tag) (columns : List ReplicaColumn) (count : ℕ) : Type 0 where
  pub apart : AreApart list columns
  pub up_to : All (IsUpTo (all_standing list columns)) columns
  pub counted : count ≡ length (standing columns)
  -- a vector holds fewer than 2^63 items, so how many stand there and in the list is a machine word
  pub few : count ≤ 4_611_686_018_427_387_904

-- the replicas that have a column
abbrev pub replicas_of : List ReplicaColumn → List ℕ
replicas_of columns = map (λ c. c.replica) columns

-- the column at this place is that of the replica
pub record IsColumnAt (columns : List ReplicaColumn) (replica place : ℕ) : Type 0 where
  pub inside : place < length columns
  pub is : slice_get (replicas_of columns) place ≡ Some replica

-- the index that stands at an id, or this one if the id isn't there
abbrev pub index_at : OpId → ℕ → List (OpId × Standing) → ℕ
index_at id index m = unwrap_or (option_map (λ s. s.1) (find id_cmp id m)) index

-- whether one of the ids stands with this tag
abbrev pub stands_in : TheTag → List (OpId × Standing) → Bool
stands_in t m = list_any (λ e. is_same_tag t (tag_of e.1.0)) m
