-- What a step of the writer does.
use Rattle.std.specs.Prelude.{◌≡◌, ◌<◌, ◌≤◌, ℕ, false, cond, nat_lt, List, [], ◌++◌, length, map}
use Rattle.atomic_table.specs.Seated.{TableId}
use Rattle.ids.specs.Configurations.{Configuration}
use Rattle.semantics.specs.Entries.{Entry}
use Rattle.semantics.specs.LegalAnswer.{Submitted}
use Rattle.semantics.specs.Replica.{IsRunning}
use Rattle.semantics.specs.Engine.{Handled}
use Rattle.semantics.specs.Handling.{Handler, Resumes, Runs}
use Rattle.semantics.specs.Batches.{ComeFrom, AreAnswers, items_of}
use Rattle.semantics.specs.Publication.{Publication, Holds}
use Rattle.semantics.specs.World.{opened_engine}
use Rattle.replica.specs.operation.declared.submission.Submission.{Submission}
use Rattle.replica.specs.operation.Submissions.{submitted_of}
use Rattle.command.specs.declared.hand.Hand.{Hand}
use Rattle.command.specs.Counts.{one_more}
use Rattle.command.specs.published.Rules.{IsQueueOf}
use Rattle.command.specs.published.declared.written.Written.{Written}
use Rattle.engine.specs.declared.writer.Step.{Step}
use Rattle.engine.specs.declared.writer.Step.TheVariants.{Idle, Published, Held}

-- a writer: the number of its clients, its batch, the replica that it works on, how much of that is published, all that it took so far, how
-- often it found the queue empty, and what is handled but not answered
pub record Writer : Type 0 where
  pub clients : ℕ
  pub batch : ℕ
  pub handler : Handler
  pub published : List Entry
  pub took : List Submission
  pub found_empty : ℕ
  pub held : List Handled

-- the writer of a new engine: its replica is that of an engine just opened, and nothing was taken or published
abbrev pub new_writer : Configuration → Writer
new_writer config = record {
  clients = config.clients;
  batch = config.batch;
  handler = record { replica = (opened_engine config).replica; behind = false };
  published = [];
  took = [];
  found_empty = 0;
  held = [];
}

-- what publishes the entries of the engine with this number and these members
abbrev pub publication_of : ℕ → List ℕ → Publication → Publication
publication_of own table p = record p { own = own; members = table }

-- what was submitted, one by one
abbrev pub submitted_in : List Submission → List Submitted
submitted_in items = map submitted_of items

-- the invariant of a writer between its calls, which takes from this queue and has the name of this logbook
pub record IsWriter (own : ℕ) (table : List ℕ) (publication : Publication) (handler : Handler) (hand : Hand) (held : List Handled)
    (batch room : ℕ) (queue : TableId) (log : List Written) : Type 0 where
  pub holds : Holds (publication_of own table publication) handler.replica
  pub running : IsRunning handler.replica
  pub come_from : ComeFrom (submitted_in hand.got) handler.replica.entries
  pub answers : AreAnswers own table handler.replica.entries held
  pub none_ended : hand.known ≡ []
  pub fits : batch ≤ room
  pub positive : 0 < batch
  pub named : IsQueueOf queue log

-- a step that began with nothing held went on with a drain that had ended early, and then took these submissions, at most a batch, and
-- handled them one after another, skipping none. It took fewer than a batch only if it found the queue empty
pub record IsWriterStep (w : Writer) (hs : List Handled) (v : Writer) : Type 0 where
  pub rested : Handler
  pub resumes : Resumes w.handler rested
  pub runs : Runs rested hs v.handler
  pub items : List Submission
  pub took : v.took ≡ w.took ++ items
  pub handled : items_of hs ≡ submitted_in items
  pub few : length hs ≤ w.batch
  pub empty : v.found_empty ≡ cond (nat_lt (length hs) w.batch) (one_more w.found_empty) w.found_empty

-- how such a step ends
abbrev pub Ends : Writer → List Handled → Step → Writer → Type 0
Ends w hs Idle v = (hs ≡ []) × (v.held ≡ []) × (v.published ≡ w.published) × (v.published ≡ v.handler.replica.entries)
Ends w hs (Published n) v = (n ≡ length hs) × (v.held ≡ []) × (v.published ≡ v.handler.replica.entries)
    × (n ≡ 0 → length w.published < length v.published)
Ends w hs Held v = (v.held ≡ hs) × (v.published ≡ w.published) × (length hs ≡ 0 → length v.published < length v.handler.replica.entries)

-- a publish of what is held, followed by the answers; if allocation fails, nothing
abbrev pub Shows : Writer → Step → Writer → Type 0
Shows w Idle v = ⊥
Shows w (Published n) v = (n ≡ length w.held) × (v ≡ record w { published = w.handler.replica.entries; held = [] })
Shows w Held v = v ≡ w
