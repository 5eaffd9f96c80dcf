-- The entries of a history, with the table of their replicas.
use Rattle.std.specs.Prelude.{◌≡◌, ℕ, ◌-◌, min, nat_lt, ◌==◌, if◌then◌else◌, ⊤, IsTrue, List, [], ◌∷◌, ◌++◌, map, replicate, reverse, set}
use Rattle.std.specs.Prelude.{◌<◌, ◌≤◌}
use Rattle.std.specs.Prelude.{length, Option, Some}
use Rattle.std.specs.Prelude.{None}
use Rattle.std.specs.List.{filter}
use Rattle.std.specs.FinMap.{put}
use Rattle.ids.specs.declared.id.OpId.{OpId}
use Rattle.ids.specs.Members.{AreDistinct, is_member}
use Rattle.ids.specs.Tables.{Table}
use Rattle.semantics.specs.Ids.{id_cmp, is_same_id}
use Rattle.semantics.specs.Vectors.{Vector, covers}
use Rattle.semantics.specs.Entries.{Entry as TheEntry, stamped_in}
use Rattle.operation.specs.declared.command.Entry.{Entry}
use Rattle.columns.specs.Numbered.{Numbered}
use Rattle.operation.specs.Ops.{entry_of}

-- a log: the table, the entries with the newest first, and for how many more there is room
pub record Logged : Type 0 where
  pub table : List ℕ
  pub entries : List TheEntry
  pub room : ℕ

-- the entries of a list that begins with the oldest
abbrev pub history : List Entry → List TheEntry
history entries = reverse (map entry_of entries)

-- the position of the operation with this id, where the oldest is at 0; the newest where there are several
abbrev pub position_of : OpId → List TheEntry → Option ℕ
position_of a [] = None
position_of a (e ∷ G) = if is_same_id (stamped_in e).id a then Some (length G) else position_of a G

-- the positions of the operations of replica p by their ids
abbrev pub positions_by : ℕ → List TheEntry → List (OpId × ℕ)
positions_by p [] = []
positions_by p (e ∷ G) = if (stamped_in e).id.replica == p then put id_cmp (stamped_in e).id (length G)
    (positions_by p G) else positions_by p G

-- no two operations have one id
abbrev pub HaveOwnIds : List TheEntry → Type 0
HaveOwnIds [] = ⊤
HaveOwnIds (e ∷ G) = HaveOwnIds G × (position_of (stamped_in e).id G ≡ None)

-- what each of these columns holds, whatever its room
abbrev pub numbers_of : List (Numbered OpId) → List (List (OpId × ℕ))
numbers_of ns = map (λ n. n.entries) ns

-- the operations are of replicas of the table
abbrev pub AreOfMembers : List ℕ → List TheEntry → Type 0
AreOfMembers table [] = ⊤
AreOfMembers table (e ∷ G) = AreOfMembers table G × IsTrue (is_member table (stamped_in e).id.replica)

-- n columns: for each replica of the table the positions of its operations, and then empty columns
abbrev pub columns_for : (n : ℕ) (table : List ℕ) (G : List TheEntry) → List (List (OpId × ℕ))
columns_for n table G = map (λ p. positions_by p G) table ++ replicate (n - length table) []

-- the least of n and of the room in each of these columns
abbrev pub least_room : ℕ → List (Numbered OpId) → ℕ
least_room n [] = n
least_room n (m ∷ ms) = min m.room (least_room n ms)

-- each column has room, once the one at this index has
abbrev pub HaveRoomBut : (last : ℕ) → List (Numbered OpId) → Type 0
HaveRoomBut last ns = (m : Numbered OpId) → 0 < m.room → 0 < least_room 1 (set ns last m)

-- the columns are those of the table; the operations are of its replicas, and have ids of their own; only the column that was written
-- to last may lack room
pub record IsIndexed (table : List ℕ) (positions : List (Numbered OpId)) (entries : List Entry) (last : ℕ) : Type 0 where
  pub distinct : AreDistinct table
  pub positions_are : numbers_of positions ≡ columns_for (length positions) table (history entries)
  pub members : AreOfMembers table (history entries)
  pub own_ids : HaveOwnIds (history entries)
  pub roomy : HaveRoomBut last positions
  pub within : last ≤ length table

-- for each of these maps in turn, the numbers of the ids above the counter at the same index
abbrev pub numbers_above : List ℕ → List (List (OpId × ℕ)) → List ℕ
numbers_above cs [] = []
numbers_above [] (m ∷ ms) = []
numbers_above (c ∷ cs) (m ∷ ms) = map (λ e. e.1) (filter (λ e. nat_lt c e.0.counter) m) ++ numbers_above cs ms

-- the positions of the operations that the vector doesn't cover, in ascending order
abbrev pub missing_positions : Vector → List TheEntry → List ℕ
missing_positions v [] = []
missing_positions v (e ∷ G) = missing_positions v G ++ (if covers v (stamped_in e).id then [] else length G ∷ [])

-- for how many more entries there is room, whose replicas may join, if the room elsewhere is n
abbrev pub room_beside : (n : ℕ) → Table → List (Numbered OpId) → ℕ
room_beside n table positions = least_room (min n (min table.room (length positions - length table.numbers))) positions
