-- What a whole exchange needs, and what it leaves.
use Rattle.std.specs.Prelude.{◌≡◌, ◌⊎◌, ℕ, ◌+◌, ◌≤◌, not, ◌||◌, IsTrue, IsFalse, List, [], length}
use Rattle.std.specs.List.{filter}
use Rattle.semantics.specs.Limits.{most_entries, most_waiting}
use Rattle.semantics.specs.Ids.{OpId}
use Rattle.semantics.specs.Operations.{Operation}
use Rattle.semantics.specs.LegalHistory.{IsAmong, has_id}
use Rattle.semantics.specs.NamedIds.{greatest_counter}
use Rattle.semantics.specs.Vectors.{Vector, at}
use Rattle.semantics.specs.Stamped.{Stamped, operations_of, IsLegalStamped}
use Rattle.ids.specs.Members.{is_member}
use Rattle.ids.specs.Tables.{lacks_room}
use Rattle.semantics.specs.Making.{is_full}
use Rattle.semantics.specs.Joining.{table_with}
use Rattle.semantics.specs.Replica.{Replica, operations, table_of, IsRunning}
use Rattle.semantics.specs.Drain.{IsDrained}
use Rattle.semantics.specs.OneWorld.{AreOfOneWorld, IsReplicaOf}

-- the operations of F that the history lacks
abbrev pub lacking : List Operation → List Stamped → List Stamped
lacking H F = filter (λ s. not (has_id H s.id)) F

-- the table has no room for the replica of one of these operations
abbrev pub LacksRoomFor : Replica → List Stamped → Type 0
LacksRoomFor r F = (s : Stamped) × IsAmong s F × IsTrue (lacks_room (table_of r) s.id.replica)

-- r can be sent what the history F has above the vector v
pub record CanReceive (r : Replica) (F : List Stamped) (v : Vector) : Type 0 where
  pub running : IsRunning r
  pub none_waits : r.waiting ≡ []
  pub legal : IsLegalStamped F
  pub world : AreOfOneWorld (operations r) (operations_of F)
  -- it lacks no operation of its own
  pub own : (s : Stamped) → IsAmong s F → s.id.replica ≡ r.own → IsTrue (has_id (operations r) s.id)
  -- the table has the replicas of all that it has, and room for those of F
  pub there : (x : Operation) → IsAmong x (operations r) → IsTrue (is_member (table_of r) x.id.replica)
  pub fits : (s : Stamped) → IsAmong s F → IsFalse (lacks_room (table_with (table_of r) F) s.id.replica)
  -- the vector names no more than r has applied
  pub vector : (p : ℕ) → at v p ≤ greatest_counter (operations r) p
  pub room : length r.entries + length (lacking (operations r) F) ≤ most_entries

-- d has what r had and the history F, and nothing waits
pub record HasReceived (r d : Replica) (F : List Stamped) : Type 0 where
  pub running : IsRunning d
  pub none_waits : d.waiting ≡ []
  pub none_dropped : d.dropped ≡ r.dropped
  pub union : (a : OpId) → has_id (operations d) a ≡ (has_id (operations r) a || has_id (operations_of F) a)
  pub world : AreOfOneWorld (operations d) (operations_of F)

-- r is replica p of the world K after a drain, with at most 4,096 that wait
pub record IsSettled (K : List Operation) (p : ℕ) (r : Replica) : Type 0 where
  pub world : IsReplicaOf K p r
  pub end : IsDrained r
  pub few : length r.waiting ≤ most_waiting

-- d has all that r had, and all of F, unless its history is full or its table has no room for a replica of F
pub record HasAll (r d : Replica) (F : List Stamped) : Type 0 where
  pub members : d.members ≡ r.members
  pub kept : (a : OpId) → IsTrue (has_id (operations r) a) → IsTrue (has_id (operations d) a)
  pub complete : IsTrue (is_full d.entries) ⊎ LacksRoomFor d F
      ⊎ ((a : OpId) → IsTrue (has_id (operations_of F) a) → IsTrue (has_id (operations d) a))
