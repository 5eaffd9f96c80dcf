-- What contracts see of a notebook.
use Rattle.std.specs.Prelude.{◌≡◌, ◌⊎◌, ◌-◌, ◌≤◌, ℕ, Bool, false, true, List, length, Option, Some, slice_get}
use Rattle.std.specs.Io.KnownBytes.{append_known}
use Rattle.semantics.specs.Entries.{Entry, Own, entry_at}
use Rattle.semantics.specs.Ids.{OpId}
use Rattle.semantics.specs.Journals.{entries_from}
use Rattle.semantics.specs.Making.{Command}
use Rattle.semantics.specs.Stamped.{Stamped}
use Rattle.semantics.specs.WorldHistory.{BeginsWith}
use Rattle.semantics.specs.LegalAnswer.{OfCommand}
use Rattle.engine.specs.Clients.{Client, submissions_by}
use Rattle.engine.specs.command.declared.ticket.Ticket.{Ticket}
use Rattle.engine.specs.operation.declared.submission.Submission.{Submission}
use Rattle.engine.specs.operation.Submissions.{submitted_of}
use Rattle.journal.specs.records.Lines.{journal_text}
use Rattle.store.specs.declared.fault.Fault.{Fault}
use Rattle.store.specs.declared.fault.Fault.TheVariants.{MustStartAgain}

-- the number of its engine; the history from which it answers peers, and how many of its entries are called stored; what its client has
-- submitted and seen, what its reader has seen, and what is published; what its store has and what of that survives a loss of power, if it
-- says so, and whether that is lost from sight
pub record Notebook : Type 0 where
  pub own : ℕ
  pub seen : List Entry
  pub stored : ℕ
  pub client : Client
  pub shown : List Entry
  pub published : List Entry
  pub held : Option (List ℕ)
  pub synced : Option (List ℕ)
  pub is_lost : Bool

-- an own entry of G was made of this command, and its operation has this id
pub record IsMadeOf (G : List Entry) (command : Command) (a : OpId) : Type 0 where
  pub position : ℕ
  pub client : ℕ
  pub serial : ℕ
  pub made : Stamped
  pub at : entry_at position G ≡ Some (Own client serial command made)
  pub id : made.id ≡ a

-- what a call that stores leaves: all that it saw of the history is called stored, the store got the lines of what wasn't, and all that it
-- has survives a loss of power
pub record IsSaved (m n : Notebook) : Type 0 where
  pub stored : length n.seen ≤ n.stored
  pub rises : m.stored ≤ n.stored
  pub held : n.held ≡ append_known m.held (journal_text (entries_from m.stored n.seen))
  pub synced : n.synced ≡ n.held
  pub is_lost : n.is_lost ≡ false

-- what a call that failed to store leaves: nothing more is called stored, and the store has what it had, unless that is lost from sight
pub record IsNotSaved (m n : Notebook) (why : Fault) : Type 0 where
  pub stored : n.stored ≡ m.stored
  pub held : ((why ≡ MustStartAgain) × (n.is_lost ≡ true)) ⊎ ((n.held ≡ m.held) × (n.synced ≡ m.synced) × (n.is_lost ≡ false))

-- what each call preserves: the number stays, and no token has seen less
pub record GoesOn (m n : Notebook) : Type 0 where
  pub own : n.own ≡ m.own
  pub seen : BeginsWith n.seen m.seen
  pub client : BeginsWith n.client.seen m.client.seen

-- what the client submitted under the ticket is this command
abbrev pub IsCommandUnder : Client → Ticket → Command → Type 0
IsCommandUnder c ticket command = (x : Submission) × (slice_get (submissions_by c) (ticket.serial - 1) ≡ Some x)
    × ((submitted_of x).request ≡ OfCommand command)
