-- One engine on one thread: what it holds, what it sends, what its steps reply, and what a step leaves.
use Rattle.std.specs.Prelude.{ℕ, List, Option}
use Rattle.ids.specs.declared.refusal.Refusal.{Refusal}
use Rattle.semantics.specs.Vectors.{Vector}
use Rattle.semantics.specs.Stamped.{Stamped}
use Rattle.semantics.specs.Entries.{Entry, first_entries}
use Rattle.semantics.specs.LegalAnswer.{Submitted, Reply, Reading}
use Rattle.semantics.specs.Replica.{Replica}

-- an answer that was set: the reply, and how many entries were published then
pub record Given : Type 0 where
  pub reply : Reply
  pub published : ℕ

-- what was submitted under a serial, and its answer once it is set
pub record Cell : Type 0 where
  pub submitted : Submitted
  pub answer : Option Given

-- how many entries the token has seen, and a cell for each serial that was taken, from serial 1 on
pub record Client : Type 0 where
  pub seen : ℕ
  pub cells : List Cell

-- a submission that the writer handled, with its reply
pub record Handled : Type 0 where
  pub submitted : Submitted
  pub reply : Reply

-- An engine. Its history is that of its replica, and the first entries of it are published.
pub record Engine : Type 0 where
  -- the capacity of the queue, how many items go into a batch, and the last serial of a client
  pub capacity : ℕ
  pub batch : ℕ
  pub serials : ℕ
  pub replica : Replica
  -- submitted and not handled, the oldest first
  pub queue : List Submitted
  -- handled and not published, the oldest first
  pub handled : List Handled
  -- published and not answered, the oldest first
  pub due : List Handled
  -- how many entries are published
  pub published : ℕ
  pub clients : List Client
  -- how many entries each reader's token has seen
  pub readers : List ℕ

-- the entries that are published
abbrev pub published_entries : Engine → List Entry
published_entries E = first_entries E.published E.replica.entries

-- a message between engines: the vector of all that its sender has published, or operations, the oldest first
pub data Message : Type 0 where
  Hello : Vector → Message
  Bundle : List Stamped → Message

-- what a step replies
pub data StepReply : Type 0 where
  -- a command was submitted under this serial
  Ticket : (serial : ℕ) → StepReply
  -- a command wasn't taken, or a serial isn't the client's
  Denied : Refusal → StepReply
  -- a submission was taken and handled
  Took : StepReply
  -- this many submissions were published, or answered by a whole step
  Published : (submissions : ℕ) → StepReply
  -- the answer to this client's serial was set
  Gave : (client serial : ℕ) → StepReply
  -- there was nothing to do
  Idle : StepReply
  -- there is no answer yet
  Unanswered : StepReply
  -- the answer to what was submitted
  Replied : Reply → StepReply
  -- the token has seen this many entries, and this is what they answer
  Read : (seen : ℕ) (reading : Reading) → StepReply
  -- the token has seen this many entries
  Seen : (seen : ℕ) → StepReply
  -- a hello was sent under this number, with this vector
  SentHello : (message : ℕ) (vector : Vector) → StepReply
  -- a bundle was sent under this number, with this many operations
  SentBundle : (message operations : ℕ) → StepReply
  -- there is no message of that kind under the number
  NoMessage : StepReply
  -- the first serial, 0 where there is none, how many operations were submitted, and the line where that stopped, with its refusal
  Received : (serial submitted : ℕ) (stopped : Option (ℕ × Refusal)) → StepReply
  -- this many operations were dropped so far
  Dropped : (operations : ℕ) → StepReply

-- the engine after a step, and the reply
pub record Outcome : Type 0 where
  pub engine : Engine
  pub reply : StepReply
