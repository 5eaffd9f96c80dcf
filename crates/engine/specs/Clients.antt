-- What contracts see of a client.
use Rattle.std.specs.Prelude.{ℕ, ◌≡◌, ◌+◌, ◌-◌, ◌<◌, ◌≤◌, ⊤, cond, Option, Some, None, IfSome, MatchOption, List, [], ◌∷◌, ◌++◌, length}
use Rattle.std.specs.Prelude.{map}
use Rattle.std.specs.Prelude.{slice_get, slice_set}
use Rattle.ids.specs.Configurations.{Configuration}
use Rattle.ids.specs.declared.refusal.Refusal.{Refusal}
use Rattle.semantics.specs.Entries.{Entry}
use Rattle.semantics.specs.PeerAnswers.{IsAnswerWith, IsWithin}
use Rattle.replica.specs.operation.declared.submission.Submission.{Submission}
use Rattle.replica.specs.operation.declared.submission.Reply.{Reply}
use Rattle.replica.specs.operation.Submissions.{reply_of, submitted_of}
use Rattle.replica.specs.operation.declared.submission.Request.{Request}
use Rattle.replica.specs.operation.SameSubmissions.{is_same_submission}
use Rattle.command.specs.Answers.{AnswerCell, Given}
use Rattle.command.specs.Counts.{full_after}
use Rattle.command.specs.declared.ticket.Ticket.{Ticket}

-- what was submitted under a serial, and what the cell of its answer is known to hold
pub record AwaitedAnswer : Type 0 where
  pub submission : Submission
  pub known : Option AnswerCell

-- a client: the engine's replica number and its own number, how many serials it has, the capacity of the queue and how often it found that
-- full, what its token has seen, what it read last and how many reads it has made, and what it keeps for each serial
pub record Client : Type 0 where
  pub replica : ℕ
  pub number : ℕ
  pub serials : ℕ
  pub capacity : ℕ
  pub found_full : ℕ
  pub seen : List Entry
  pub read : List Entry
  pub reads : ℕ
  pub kept : List AwaitedAnswer

-- the client after it submitted a request, under its next serial and the floor of what it has seen
abbrev pub with_request : Client → Request → Client
with_request c request = record c {
  kept = c.kept
      ++ (record {
        submission = record { client = c.number; serial = length c.kept + 1; floor = length c.seen; request = request };
        known = None;
      }) ∷ [];
}

-- the client after it was refused: if the queue was full, it has found it full once more
abbrev pub after_refusal : Client → Refusal → Client
after_refusal c why = record c { found_full = full_after c.found_full why }

-- what a client submitted, in order
abbrev pub submissions_by : Client → List Submission
submissions_by c = map (λ k. k.submission) c.kept

-- this client submitted these, under the serials from n on
abbrev pub AreBy : (client n : ℕ) → List Submission → Type 0
AreBy client n [] = ⊤
AreBy client n (x ∷ xs) = (x.client ≡ client) × (x.serial ≡ n) × AreBy client (n + 1) xs

-- what a cell gives to the submission that waits: nothing, if its answer is to another submission
abbrev pub answer_in : Submission → Option AnswerCell → Option Given
answer_in x None = None
answer_in x (Some a) = cond (is_same_submission a.submission x) a.given None

-- what the cell of a serial is known to give to its own submission
abbrev pub answer_of : AwaitedAnswer → Option Given
answer_of k = answer_in k.submission k.known

-- what is kept of an answer's notice: nothing until an answer is known, and then that of the answer
abbrev pub IsNoticeOf : (own : ℕ) (members : List ℕ) → AwaitedAnswer → Option (List Entry) → Type 0
IsNoticeOf own ps k None = answer_of k ≡ None
IsNoticeOf own ps k (Some G) = (r : Reply) × (answer_of k ≡ Some (record { reply = r; history = G }))
    × IsAnswerWith own ps G (submitted_of k.submission) (reply_of r)

-- the ticket is one that this client was given
abbrev pub IsMine : Client → Ticket → Type 0
IsMine c t = (t.replica ≡ c.replica) × (t.client ≡ c.number) × (0 < t.serial) × (t.serial ≤ length c.kept)

-- what a look at the cell of index i leaves, and what the cell gives: what was known of it stays known
pub record Looks (c d : Client) (i : ℕ) (given : Option Given) : Type 0 where
  pub before : AwaitedAnswer
  pub after : AwaitedAnswer
  pub at : slice_get c.kept i ≡ Some before
  pub kept : d.kept ≡ slice_set c.kept i after
  pub submission : after.submission ≡ before.submission
  pub known : IfSome before.known (λ a. after.known ≡ Some a)
  pub given_is : given ≡ answer_of after

-- the ticket's submission, which is the client's under its serial, was answered r with a notice of G: G allows the reply, has the position
-- or the length that it names, and if it is a refusal has no entry of the submission
pub record IsAnswered (own : ℕ) (members : List ℕ) (c : Client) (t : Ticket) (r : Reply) (G : List Entry) : Type 0 where
  pub kept : AwaitedAnswer
  pub at : slice_get c.kept (t.serial - 1) ≡ Some kept
  pub client : kept.submission.client ≡ t.client
  pub serial : kept.submission.serial ≡ t.serial
  pub given : answer_of kept ≡ Some (record { reply = r; history = G })
  pub answer : IsAnswerWith own members G (submitted_of kept.submission) (reply_of r)
  pub within : IsWithin G (reply_of r)

-- a notice of the answer to the ticket's submission, if there is an answer: G allows the reply, and has the position or the length that it
-- names; it is the notice of the answer that is known, if one is
pub record HasNotice (own : ℕ) (members : List ℕ) (c : Client) (t : Ticket) (notice : Option (List Entry)) : Type 0 where
  pub kept : AwaitedAnswer
  pub at : slice_get c.kept (t.serial - 1) ≡ Some kept
  pub of_answer : MatchOption notice (answer_of kept ≡ None)
      (λ G. (g : Given) × (G ≡ g.history) × IsAnswerWith own members G (submitted_of kept.submission) (reply_of g.reply)
      × IsWithin G (reply_of g.reply) × IfSome (answer_of kept) (λ known. known ≡ g))

-- a client of a new engine with this configuration: it has seen and submitted nothing, and never found the queue full
pub record IsNewClient (config : Configuration) (c : Client) : Type 0 where
  pub replica : c.replica ≡ config.own
  pub serials : c.serials ≡ config.serials
  pub capacity : c.capacity ≡ config.queue
  pub found_full : c.found_full ≡ 0
  pub seen : c.seen ≡ []
  pub kept : c.kept ≡ []

-- clients that are numbered from n on
abbrev pub AreNumbered : ℕ → List Client → Type 0
AreNumbered n [] = ⊤
AreNumbered n (c ∷ cs) = (c.number ≡ n) × AreNumbered (n + 1) cs
