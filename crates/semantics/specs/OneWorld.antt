-- Histories of one world: their operations together can be put into one legal history.
use Rattle.std.specs.Prelude.{◌≡◌, ℕ, IsTrue, IsFalse, List}
use Rattle.semantics.specs.Operations.{Operation}
use Rattle.semantics.specs.LegalHistory.{IsLegal, IsAmong, has_id}
use Rattle.semantics.specs.Stamped.{Stamped, IsLegalStamped, operations_of}
use Rattle.semantics.specs.Replica.{Replica, operations, has_full_table, IsRunning}

-- each operation of H stands in K
abbrev pub AreWithin : List Operation → List Operation → Type 0
AreWithin H K = (o : Operation) → IsAmong o H → IsAmong o K

-- the operations of both stand in one legal history
pub record AreOfOneWorld (H J : List Operation) : Type 0 where
  pub all : List Operation
  pub legal : IsLegal all
  pub first : AreWithin H all
  pub second : AreWithin J all

-- F is a legal history whose operations are all of the world K
pub record IsHistoryOf (K : List Operation) (F : List Stamped) : Type 0 where
  pub legal : IsLegalStamped F
  pub within : AreWithin (operations_of F) K

-- s stands in a legal history of the world K
pub record IsOfWorld (K : List Operation) (s : Stamped) : Type 0 where
  pub history : List Stamped
  pub legal : IsLegalStamped history
  pub within : AreWithin (operations_of history) K
  pub there : IsAmong s history

-- r is replica p of the world K: it has all that it made there, and dropped nothing, unless its table is full
pub record IsReplicaOf (K : List Operation) (p : ℕ) (r : Replica) : Type 0 where
  pub own : r.own ≡ p
  pub running : IsRunning r
  pub within : AreWithin (operations r) K
  pub made : (x : Operation) → IsAmong x K → x.id.replica ≡ p → IsTrue (has_id (operations r) x.id)
  pub waits : (s : Stamped) → IsAmong s r.waiting → IsOfWorld K s
  pub none_dropped : IsFalse (has_full_table r) → r.dropped ≡ 0
