-- Runs of a world in which engines send each other what they have.
use Rattle.std.specs.Prelude.{◌≡◌, ◌⊎◌, ℕ, ◌+◌, ◌<◌, ◌≤◌, Bool, true, false, IsTrue, IsFalse, List, ◌∷◌, ◌++◌, None, Some, slice_get}
use Rattle.ids.specs.Configurations.{Configuration}
use Rattle.ids.specs.declared.refusal.Refusal.TheVariants.{HistoryFull}
use Rattle.semantics.specs.LegalHistory.{IsAmong, has_id}
use Rattle.semantics.specs.Vectors.{Vector}
use Rattle.semantics.specs.Stamped.{Stamped}
use Rattle.semantics.specs.Making.{is_full}
use Rattle.semantics.specs.Entries.{Entry}
use Rattle.semantics.specs.LegalAnswer.{OfPeer, Submitted, RefusedAt}
use Rattle.semantics.specs.Replica.{Replica, operations}
use Rattle.semantics.specs.Delivery.{is_waiting}
use Rattle.semantics.specs.Engine.{Engine, published_entries, StepReply, SentHello, SentBundle, Received}
use Rattle.semantics.specs.World.{WorldAct, WorldStep, Lines, SayHello, AnswerHello, Deliver, step_by, opened, world_step, world_after}
use Rattle.semantics.specs.WorldHistory.{IsEngineAfter, WasSubmitted, WasReplied}

-- no two engines have the same own number
abbrev pub HaveOwnNumbers : List Configuration → Type 0
HaveOwnNumbers cs = (d e : ℕ) (b c : Configuration) → slice_get cs d ≡ Some b → slice_get cs e ≡ Some c → b.own ≡ c.own → d ≡ e

-- a client receives lines of any origin
abbrev pub is_of_lines : WorldAct → Bool
is_of_lines (Lines c ss bad) = true
is_of_lines _ = false

-- all that is received was sent by an engine of the world
abbrev pub AreWithoutLines : List WorldStep → Type 0
AreWithoutLines steps = (s : WorldStep) → IsAmong s steps → is_of_lines s.act ≡ false

-- the reply to a step after these
abbrev pub reply_after : List Configuration → List WorldStep → WorldStep → StepReply
reply_after cs steps s = (world_step (world_after (opened cs) steps) s).reply

-- In these steps engine a says hello, engine b answers it from these published entries, and client c of a receives the answer
-- without a stop, under the serials from the first on and below the end. Other steps may come before, between and after.
pub record IsExchange (cs : List Configuration) (steps : List WorldStep) (a b c first end : ℕ) (published : List Entry) : Type 0 where
  pub before : List WorldStep
  pub between : List WorldStep
  pub later : List WorldStep
  pub after : List WorldStep
  -- token t says hello in message h, with this vector
  pub t : ℕ
  pub h : ℕ
  pub vector : Vector
  pub hello : reply_after cs before (step_by a (SayHello t)) ≡ SentHello h vector
  -- token u answers it in message k, with this many operations
  pub u : ℕ
  pub k : ℕ
  pub sent : ℕ
  pub answer : reply_after cs (before ++ step_by a (SayHello t) ∷ between) (step_by b (AnswerHello u h)) ≡ SentBundle k sent
  pub answerer : Engine
  pub there : IsEngineAfter cs (before ++ step_by a (SayHello t) ∷ between) b answerer
  pub had : published_entries answerer ≡ published
  -- the client receives it
  pub count : ℕ
  pub receipt : reply_after cs (before ++ step_by a (SayHello t) ∷ between ++ step_by b (AnswerHello u h) ∷ later) (step_by a (Deliver c k))
      ≡ Received first count None
  pub last : end ≡ first + count
  pub all : steps ≡ before ++ step_by a (SayHello t) ∷ between ++ step_by b (AnswerHello u h) ∷ later ++ step_by a (Deliver c k) ∷ after

-- all that client c submitted under serials below the end is handled
abbrev pub IsHandledBelow : Engine → (client end : ℕ) → Type 0
IsHandledBelow E c end = (x : Submitted) → IsAmong x E.queue → x.client ≡ c → end ≤ x.serial

-- the operation is applied, and doesn't wait
abbrev pub HasApplied : Replica → Stamped → Type 0
HasApplied r s = IsTrue (has_id (operations r) s.id) × IsFalse (is_waiting r.waiting s.id)

-- client c delivered the operation, under a serial from the first on and below the end, and the reply to that was HistoryFull
pub record WasRefusedFull (E : Engine) (c first end : ℕ) (s : Stamped) : Type 0 where
  pub serial : ℕ
  pub from : first ≤ serial
  pub below : serial < end
  pub item : Submitted
  pub submitted : WasSubmitted E c serial item
  pub delivered : item.request ≡ OfPeer s
  pub length : ℕ
  pub reply : WasReplied E c serial (RefusedAt HistoryFull length)

-- the operation is applied; or the history is full, and the operation waits, or was refused for that
abbrev pub IsAppliedUnlessFull : Engine → (client first end : ℕ) → Stamped → Type 0
IsAppliedUnlessFull E c first end s =
    HasApplied E.replica s
    ⊎ (IsTrue (is_full E.replica.entries) × (IsTrue (is_waiting E.replica.waiting s.id) ⊎ WasRefusedFull E c first end s))
