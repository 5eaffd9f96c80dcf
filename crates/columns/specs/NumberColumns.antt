-- Numbers by id, of which those of each replica stand apart.
use Rattle.std.specs.Prelude.{◌≡◌, ◌<◌, ℕ, IsTrue, List, [], ◌∷◌, ◌++◌, map, length, Some, slice_get}
use Rattle.std.specs.List.{All}
use Rattle.ids.specs.Members.{AreDistinct}
use Rattle.semantics.specs.Ids.{OpId, id_at}
use Rattle.columns.specs.Numbered.{Numbered}
use Rattle.columns.specs.ReplicaColumns.{is_rising, put_each}
use Rattle.columns.specs.declared.number_column.NumberColumn.{NumberColumn}

-- the ids of a replica with these counters, each with its number
abbrev pub numbered_run : ℕ → List ℕ → List ℕ → List (OpId × ℕ)
numbered_run p [] numbers = []
numbered_run p (k ∷ counters) [] = []
numbered_run p (k ∷ counters) (n ∷ numbers) = (id_at k p, n) ∷ numbered_run p counters numbers

-- the ids of a column with their numbers
abbrev pub numbered_in : NumberColumn → List (OpId × ℕ)
numbered_in c = numbered_run c.replica c.counters.items c.numbers.items

-- those of all columns, one column after the other
abbrev pub numbered : List NumberColumn → List (OpId × ℕ)
numbered [] = []
numbered (c ∷ cs) = numbered_in c ++ numbered cs

-- a map and columns as one map, which has the room of the first
abbrev pub with_numbers : Numbered OpId → List NumberColumn → Numbered OpId
with_numbers list columns = record { entries = put_each (numbered columns) list.entries; room = list.room }

-- the counters of a column rise, and each has a number
pub record IsNumberColumn (c : NumberColumn) : Type 0 where
  pub rising : IsTrue (is_rising c.counters.items)
  pub long : length c.numbers.items ≡ length c.counters.items

-- the replicas that have a column
abbrev pub numbering : List NumberColumn → List ℕ
numbering columns = map (λ c. c.replica) columns

-- each replica has one column at most
pub record AreNumberColumns (columns : List NumberColumn) : Type 0 where
  pub each : All IsNumberColumn columns
  pub distinct : AreDistinct (numbering columns)

-- the column at this place is that of the replica
pub record NumbersStandAt (columns : List NumberColumn) (replica place : ℕ) : Type 0 where
  pub inside : place < length columns
  pub is : slice_get (numbering columns) place ≡ Some replica
