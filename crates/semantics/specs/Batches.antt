-- The invariant of a batch of submissions that a writer handled, and of all that it has taken.
use Rattle.std.specs.Prelude.{◌≡◌, ◌-◌, ◌<◌, ◌≤◌, ℕ, ⊤, Some, List, [], ◌∷◌, ◌++◌, length, map, slice_get}
use Rattle.semantics.specs.Making.{Command}
use Rattle.semantics.specs.Entries.{Entry, Own, Peer}
use Rattle.semantics.specs.LegalAnswer.{OfCommand, Submitted}
use Rattle.semantics.specs.Replica.{IsRunning}
use Rattle.semantics.specs.Engine.{Handled}
use Rattle.semantics.specs.WorldHistory.{BeginsWith, of_client}
use Rattle.semantics.specs.PeerAnswers.{IsAnswerWith}
use Rattle.semantics.specs.Handling.{Handler, Runs}

-- of one client's submissions, numbered from serial 1 on, the one with that serial asks for the command
abbrev pub AsksFor : List Submitted → (serial : ℕ) → Command → Type 0
AsksFor xs serial c = (x : Submitted) × (0 < serial) × (slice_get xs (serial - 1) ≡ Some x) × (x.request ≡ OfCommand c)

-- each own entry is of a command that was taken, under its client and serial
abbrev pub ComeFrom : List Submitted → List Entry → Type 0
ComeFrom took [] = ⊤
ComeFrom took (Own client serial c s ∷ G) = AsksFor (of_client client took) serial c × ComeFrom took G
ComeFrom took (Peer s ∷ G) = ComeFrom took G

-- each may be answered with its reply and a notice of the history
abbrev pub AreAnswers : (own : ℕ) (members : List ℕ) → List Entry → List Handled → Type 0
AreAnswers p ps G [] = ⊤
AreAnswers p ps G (h ∷ hs) = IsAnswerWith p ps G h.submitted h.reply × AreAnswers p ps G hs

-- each was taken: its serial is one that its client has come to
abbrev pub AreTaken : List Submitted → List Handled → Type 0
AreTaken took [] = ⊤
AreTaken took (h ∷ hs) = (h.submitted.serial ≤ length (of_client h.submitted.client took)) × AreTaken took hs

-- the submissions that were handled
abbrev pub items_of : List Handled → List Submitted
items_of hs = map (λ h. h.submitted) hs

-- these submissions were handled from w on, which had taken `took` before; v is what came of it
pub record IsBatch (w : Handler) (took : List Submitted) (hs : List Handled) (v : Handler) : Type 0 where
  pub runs : Runs w hs v
  pub own : v.replica.own ≡ w.replica.own
  pub members : v.replica.members ≡ w.replica.members
  pub running : IsRunning v.replica
  pub come_from : ComeFrom (took ++ items_of hs) v.replica.entries
  pub taken : AreTaken (took ++ items_of hs) hs
  pub answers : AreAnswers v.replica.own v.replica.members v.replica.entries hs

-- v is w after it resumed: the invariant of a writer still holds
pub record IsResumed (w : Handler) (took : List Submitted) (v : Handler) : Type 0 where
  pub own : v.replica.own ≡ w.replica.own
  pub members : v.replica.members ≡ w.replica.members
  pub entries : BeginsWith v.replica.entries w.replica.entries
  pub running : IsRunning v.replica
  pub come_from : ComeFrom took v.replica.entries
