-- What the next turn of a drain does.
use Rattle.std.specs.Prelude.{◌≡◌, Option, Some, None, List}
use Rattle.ids.specs.declared.refusal.Refusal.{Refusal}
use Rattle.semantics.specs.Ids.{OpId}
use Rattle.semantics.specs.Stamped.{Stamped}
use Rattle.semantics.specs.Joining.{check_fault}
use Rattle.semantics.specs.Entries.{stamped_entries}
use Rattle.inbox.specs.operation.declared.op.Op.{Op}
use Rattle.inbox.specs.document.Documents.{HasRoomFor, Contents}
use Rattle.replica.specs.Replicas.{next_in}
use Rattle.replica.specs.declared.waiting.Turn.{Turn}
use Rattle.replica.specs.declared.waiting.Turn.TheVariants.{Append, Drop}

-- the next one that leaves has this id and no fault, and can be appended without allocating
pub record IsAppended (d : Contents) (ws : List Op) (a : OpId) : Type 0 where
  pub next : Stamped
  pub is_next : next_in d ws ≡ Some next
  pub id : next.id ≡ a
  pub faultless : check_fault d.members (stamped_entries d.entries) next ≡ None
  pub room : HasRoomFor d next

-- the next one that leaves has this id and a fault
pub record IsDropped (d : Contents) (ws : List Op) (a : OpId) : Type 0 where
  pub next : Stamped
  pub is_next : next_in d ws ≡ Some next
  pub id : next.id ≡ a
  pub why : Refusal
  pub fault : check_fault d.members (stamped_entries d.entries) next ≡ Some why

-- what a turn does with this document and where these wait
abbrev pub IsNextTurn : Contents → List Op → Option Turn → Type 0
IsNextTurn d ws None = next_in d ws ≡ None
IsNextTurn d ws (Some (Append a)) = IsAppended d ws a
IsNextTurn d ws (Some (Drop a)) = IsDropped d ws a
