-- How a document answers calls, and what its store then has.
use Rattle.std.specs.Prelude.{◌≡◌, ◌⊎◌, ◌+◌, ℕ, Bool, false, true, List, [], length, take, MatchOption, Option, option_map, Result, Ok, Err}
use Rattle.std.specs.Prelude.{string_bytes}
use Rattle.std.specs.Io.KnownBytes.{append_known}
use Rattle.ids.specs.declared.refusal.Refusal.{Refusal}
use Rattle.ids.specs.declared.refusal.Refusal.TheVariants.{NoMemory}
use Rattle.semantics.specs.Context.{doc}
use Rattle.semantics.specs.DocumentAnswer.{lists_of}
use Rattle.semantics.specs.Elements.{At, Element}
use Rattle.semantics.specs.Entries.{Entry, applied}
use Rattle.semantics.specs.Glances.{glance_of, shown_by}
use Rattle.semantics.specs.Handling.{DrainsTo}
use Rattle.semantics.specs.Journals.{entries_from}
use Rattle.semantics.specs.LegalAnswer.{Answered as AnsweredBy, Asked, reading_of}
use Rattle.semantics.specs.Making.{Command, make}
use Rattle.semantics.specs.NamedIds.{vector_of}
use Rattle.semantics.specs.Questions.{Answer as TheAnswer, Refused as TheRefused, Step, answer_at, resolve}
use Rattle.semantics.specs.Replica.{Replica, commit_own}
use Rattle.semantics.specs.Stamped.{Stamped}
use Rattle.semantics.specs.Vectors.{Vector}
use Rattle.session.specs.wire.Bundles.{readable}
use Rattle.session.specs.wire.Messages.{hello_form}
use Rattle.session.specs.records.Lines.{journal_text}
use Rattle.session.specs.Answers.{IsAnswer}
use Rattle.session.specs.Receipts.{EndsBehind, StopsBehind, delivered, is_short, refusals, refused_lines, summary}
use Rattle.session.specs.declared.session.answering.Answered.{Answered}
use Rattle.session.specs.declared.session.receiving.Received.{Received}
use Rattle.session.specs.replica.Replicas.{IsMade}
use Rattle.session.specs.replica.document.Documents.{said_by}
use Rattle.session.specs.replica.document.tree.Glances.{glance_in}
use Rattle.calls.specs.Calls as call
use Rattle.calls.specs.declared.response.Response.{Response}
use Rattle.calls.specs.declared.response.Response.TheVariants as said

-- the replica, how many of its entries are on the shelf, what the store has and what of that survives a loss of power, if it says so, and
-- whether that is lost from sight
pub record Desk : Type 0 where
  pub replica : Replica
  pub stored : ℕ
  pub held : Option (List ℕ)
  pub synced : Option (List ℕ)
  pub is_lost : Bool

-- how many operations the history has
abbrev pub length_of : Desk → ℕ
length_of m = length m.replica.entries

-- ---- saving

-- all entries are on the shelf: the store got the lines of those that weren't, and all that it has survives a loss of power
pub record IsSaved (m n : Desk) : Type 0 where
  pub stored : n.stored ≡ length_of m
  pub held : n.held ≡ append_known m.held (journal_text (entries_from m.stored m.replica.entries))
  pub synced : n.synced ≡ n.held
  pub is_lost : n.is_lost ≡ false

-- the response to a change once it is saved, and the response if it isn't: then nothing more is on the shelf, and the store has what it
-- had, unless that is lost from sight
abbrev pub SaysSaved : Response → Desk → Response → Desk → Type 0
SaysSaved done m r n = (n.replica ≡ m.replica)
    × (((r ≡ done) × IsSaved m n)
    ⊎ ((r ≡ said.Unsaved (length_of m) m.stored) × (n ≡ m) × (m.is_lost ≡ false))
    ⊎ ((r ≡ said.Lost) × (n.stored ≡ m.stored) × (n.is_lost ≡ true)))

-- ---- one for each kind of call

-- a command is made according to the rules, and saved; or it is refused, and nothing has changed
abbrev pub Writes : Desk → Command → Response → Desk → Type 0
Writes m c r n =
    ((s : Stamped) × IsMade m.replica.entries m.replica.own c s
    × SaysSaved (said.Made s.id (length_of m)) (record m { replica = commit_own m.replica 0 (length_of m) c s }) r n)
    ⊎ ((why : Refusal) × (r ≡ said.Refused why (length_of m)) × (n ≡ m)
    × ((why ≡ NoMemory) ⊎ (make (applied m.replica.entries) m.replica.own c ≡ Err why)))

-- a question is answered according to the rules, of the whole history
abbrev pub Asks : List Entry → Asked → Response → Type 0
Asks G q (said.Read seen reading) = (seen ≡ length G) × (said_by reading ≡ reading_of G q)
Asks G q (said.Refused why seen) = (seen ≡ length G) × (reading_of G q ≡ AnsweredBy (TheRefused why))
Asks G q _ = ⊥

-- an element is shown according to the rules, of the whole history
abbrev pub Looks : List Entry → List Step → (depth elements : ℕ) → Response → Type 0
Looks G steps depth elements (said.Glance seen g) = (seen ≡ length G)
    × ((e : Element) × (resolve (lists_of (doc (applied G))) steps ≡ Ok (At e))
    × (glance_in g ≡ glance_of (shown_by (doc (applied G))) depth elements e))
Looks G steps depth elements (said.Refused why seen) = (seen ≡ length G)
    × ((f : Element → TheAnswer) → answer_at f (resolve (lists_of (doc (applied G))) steps) ≡ TheRefused why)
Looks G steps depth elements _ = ⊥

-- the vector of all that was applied
abbrev pub Greets : Desk → Response → Type 0
Greets m (said.Hello v) = v ≡ vector_of (applied m.replica.entries)
Greets m _ = ⊥

-- the response with an answer for a peer
abbrev pub IsBundle : Answered → Response → Type 0
IsBundle a (said.Bundle lines has_more is_beyond) =
    (string_bytes lines ≡ a.lines.items) × (has_more ≡ a.has_more) × (is_beyond ≡ a.is_beyond)
IsBundle a _ = ⊥

-- the first lines of what is on the shelf and the peer lacks, or why its hello isn't one
abbrev pub Sends : Desk → (hello : List ℕ) → Response → Type 0
Sends m hello (said.Denied why) = hello_form hello ≡ Err why
Sends m hello r =
    (a : Answered) × IsBundle a r × ((v : Vector) × (hello_form hello ≡ Ok v) × IsAnswer 4194304 m.replica m.stored v a)

-- the response to a receipt
abbrev pub received_of : Received → Response
received_of x = said.Received x.taken (option_map (λ r. record { count = r.count; line = r.first_line; why = r.why }) x.refused)
    (option_map (λ s. record { line = s.0; why = s.1 }) x.stopped)

-- a receipt of a bundle by the replica r, which is then q: what was taken is delivered, and what is ready is applied
pub record IsReceipt (r : Replica) (bundle : List ℕ) (x : Received) (q : Replica) : Type 0 where
  pub replica : DrainsTo (delivered r (take x.taken (readable [] bundle).operations)) (is_short x.stopped) q
  pub refused : x.refused ≡ summary (refused_lines 1 (refusals r (take x.taken (readable [] bundle).operations)))
  pub stopped : MatchOption x.stopped (EndsBehind (readable [] bundle) x.taken)
      (λ stop. (stop.0 ≡ x.taken + 1) × StopsBehind (readable [] bundle) x.taken stop.1)

-- a bundle is received, and what of it is applied is saved
abbrev pub TakesIn : Desk → (bundle : List ℕ) → Response → Desk → Type 0
TakesIn m bundle r n = (x : Received) × (q : Replica) × IsReceipt m.replica bundle x q
    × SaysSaved (received_of x) (record m { replica = q }) r n

-- the response to a call, and what it leaves
abbrev pub Answers : Desk → call.Call → Response → Desk → Type 0
Answers m (call.Write c) r n = Writes m c r n
Answers m (call.Ask q) r n = Asks m.replica.entries q r × (n ≡ m)
Answers m (call.Glance steps depth elements) r n = Looks m.replica.entries steps depth elements r × (n ≡ m)
Answers m call.Hello r n = Greets m r × (n ≡ m)
Answers m (call.Answer hello) r n = Sends m hello r × (n ≡ m)
Answers m (call.Receive bundle) r n = TakesIn m bundle r n
Answers m call.Save r n = SaysSaved (said.Saved (length_of m)) m r n
Answers m call.Status r n = (r ≡ said.Status m.replica.own (length_of m) m.stored) × (n ≡ m)

-- the response to a line that calls for this, or is no call
abbrev pub AnswersCall : Desk → Result call.Call Refusal → Response → Desk → Type 0
AnswersCall m (Ok c) r n = Answers m c r n
AnswersCall m (Err why) r n = (r ≡ said.Denied why) × (n ≡ m)

-- the response to a line
abbrev pub AnswersLine : Desk → (line : List ℕ) → Response → Desk → Type 0
AnswersLine m line r n = AnswersCall m (call.call_form line) r n
