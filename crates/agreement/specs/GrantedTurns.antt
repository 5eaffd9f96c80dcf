-- A step of the writer in which no allocation fails, and what it leaves of an engine.
use Rattle.std.specs.Prelude.{◌≡◌, ◌<◌, ◌≤◌, List, [], ◌∷◌, ◌++◌, length}
use Rattle.semantics.specs.LegalAnswer.{Submitted}
use Rattle.semantics.specs.Engine.{Engine, Handled, Published}
use Rattle.semantics.specs.WriteSteps.{handle_all, whole_step}
use Rattle.semantics.specs.Batches.{items_of}
use Rattle.semantics.specs.Handling.{Handler, IsWhole}

-- these submissions are handled one after another, each by the rules alone, since every allocation succeeds
abbrev pub AreGranted : Handler → List Handled → Handler → Type 0
AreGranted w [] v = v ≡ w
AreGranted w (h ∷ hs) v = (u : Handler) × IsWhole w h.submitted h.reply u × AreGranted u hs v

-- between its steps, the world's engine has the replica of the writer, and these submissions are the next batch
pub record Awaits (E : Engine) (w : Handler) (hs : List Handled) (rest : List Submitted) : Type 0 where
  pub handled : E.handled ≡ []
  pub due : E.due ≡ []
  pub replica : E.replica ≡ w.replica
  pub queue : E.queue ≡ items_of hs ++ rest
  pub some : 0 < length hs
  pub batch : length hs ≤ E.batch
  pub all : length hs < E.batch → rest ≡ []

-- the world's whole step leaves what the writer's step leaves, replies with its number of submissions, and gives these replies
pub record StepsAlike (E : Engine) (hs : List Handled) (rest : List Submitted) (v : Handler) : Type 0 where
  pub replica : (whole_step E).engine.replica ≡ v.replica
  pub published : (whole_step E).engine.published ≡ length v.replica.entries
  pub queue : (whole_step E).engine.queue ≡ rest
  pub handled : (whole_step E).engine.handled ≡ []
  pub due : (whole_step E).engine.due ≡ []
  pub reply : (whole_step E).reply ≡ Published (length hs)
  pub answers : (handle_all E).due ≡ hs
