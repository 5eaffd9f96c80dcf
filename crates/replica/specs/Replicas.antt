-- A replica as contracts see it, and when it can append.
use Rattle.std.specs.Prelude.{◌≡◌, ◌≤◌, ℕ, cond, IsTrue, List, Ok, Option, Some, None}
use Rattle.ids.specs.Members.{is_member}
use Rattle.semantics.specs.Operations.{Operation}
use Rattle.semantics.specs.Stamped.{Stamped}
use Rattle.semantics.specs.Joining.{check_fault}
use Rattle.semantics.specs.Making.{Command as TheCommand, is_full, make}
use Rattle.semantics.specs.Entries.{Entry as TheEntry, IsAbove, applied, stamped_entries}
use Rattle.semantics.specs.Replica.{Replica as TheReplica, IsRunning, operations}
use Rattle.semantics.specs.Drain.{first_ready}
use Rattle.semantics.specs.WriteSteps.{stamp}
use Rattle.inbox.specs.operation.declared.op.Op.{Op}
use Rattle.inbox.specs.operation.declared.command.Command.{Command}
use Rattle.inbox.specs.operation.declared.command.Entry.{Entry}
use Rattle.inbox.specs.operation.declared.command.Entry.TheVariants.{Own, Peer}
use Rattle.inbox.specs.document.Documents.{HasRoomFor, Contents}
use Rattle.inbox.specs.operation.Ops.{command_of, stamped_of}
use Rattle.inbox.specs.Inboxes.{StandAlone, waiting_in}

-- a replica: its own number, its document, what waits in ascending order of id, and how many operations were dropped
pub record Running : Type 0 where
  pub own : ℕ
  pub document : Contents
  pub waiting : List Op
  pub dropped : ℕ

-- the replica of the definitions
abbrev pub replica_of : Running → TheReplica
replica_of r = record {
  own = r.own;
  members = r.document.members;
  entries = r.document.entries;
  waiting = waiting_in r.waiting;
  dropped = r.dropped;
}

-- the invariant of a replica: that of the definitions, its own number is a member, what waits passed the tests that need no history, and
-- the count fits a u64
pub record IsReplica (r : Running) : Type 0 where
  pub running : IsRunning (replica_of r)
  pub member : IsTrue (is_member r.document.members r.own)
  pub alone : StandAlone r.waiting
  pub count : r.dropped ≤ 18446744073709551615

-- s is what replica p makes of the command after G, with the vector of all that was applied
abbrev pub IsMade : List TheEntry → ℕ → TheCommand → Stamped → Type 0
IsMade G p command s = (o : Operation) × (make (applied G) p command ≡ Ok o) × (s ≡ stamp (applied G) o)

-- this command of an own client and its operation can be appended next without allocating
pub record IsNextMade (r : Running) (client serial : ℕ) (c : Command) (o : Op) : Type 0 where
  pub made : IsMade r.document.entries r.own (command_of c) (stamped_of o)
  pub room : HasRoomFor r.document (stamped_of o)
  pub above : IsAbove client serial r.document.entries

-- the entry is of such a command and operation
abbrev pub IsNextOwn : Running → Entry → Type 0
IsNextOwn r (Own client serial c o) = IsNextMade r client serial c o
IsNextOwn r (Peer o) = ⊥

-- the smallest ready one of those that wait, unless the history is full
abbrev pub next_of : TheReplica → Option Stamped
next_of r = cond (is_full r.entries) None (first_ready (operations r) r.waiting)

-- the next ready one has no fault, and can be appended without allocating
pub record IsNextReady (r : Running) (s : Stamped) : Type 0 where
  pub next : next_of (replica_of r) ≡ Some s
  pub faultless : check_fault r.document.members (stamped_entries r.document.entries) s ≡ None
  pub room : HasRoomFor r.document s

-- the replica of these parts
abbrev pub replica_with : ℕ → Contents → List Op → TheReplica
replica_with own document waiting = replica_of (record { own = own; document = document; waiting = waiting; dropped = 0 })

-- the next one that leaves, with this document and where these wait
abbrev pub next_in : Contents → List Op → Option Stamped
next_in d ws = next_of (replica_with 0 d ws)
