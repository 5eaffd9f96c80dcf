-- What a run of a world replies to polls.
use Rattle.std.specs.Prelude.{◌≡◌, ◌⊎◌, ◌≤◌, ℕ, ⊤, List, [], ◌∷◌, Some, slice_get}
use Rattle.ids.specs.declared.refusal.Refusal.{Refusal}
use Rattle.ids.specs.declared.refusal.Refusal.TheVariants.{NoMemory}
use Rattle.semantics.specs.Stamped.{Stamped}
use Rattle.semantics.specs.Entries.{first_entries}
use Rattle.semantics.specs.LegalAnswer.{Submitted, OfPeer, Reply, RefusedAt}
use Rattle.semantics.specs.PeerAnswers.{IsAnswer, IsTrueOf}
use Rattle.semantics.specs.Engine.{Engine, Replied, published_entries}
use Rattle.semantics.specs.ReadSteps.{poll}
use Rattle.semantics.specs.World.{World, WorldAct, WorldStep, Poll, world_step}
use Rattle.semantics.specs.WorldHistory.{IsNotBelow, WasSubmitted}

-- why a peer's operation s was refused at the length m of E's published history: an allocation failed, or the refusal is true of s and of
-- some beginning, not before the floor and up to m
abbrev pub HasReason : Engine → (floor : ℕ) → Stamped → Refusal → (m : ℕ) → Type 0
HasReason E floor s why m = (why ≡ NoMemory)
    ⊎ ((k : ℕ) × (floor ≤ k) × (k ≤ m) × IsTrueOf E.replica.own E.replica.members (first_entries k (published_entries E)) s why)

-- the reply to client c's poll of a serial is legal in E's published history, for what was submitted and not below its floor; and if it
-- refuses a peer's operation, there is a reason
pub record IsTrueReply (E : Engine) (c serial : ℕ) (r : Reply) : Type 0 where
  pub submitted : Submitted
  pub was : WasSubmitted E c serial submitted
  pub answer : IsAnswer E.replica.own E.replica.members (published_entries E) submitted r
  pub floor : IsNotBelow submitted.floor r
  pub reason : (s : Stamped) (why : Refusal) (m : ℕ) → submitted.request ≡ OfPeer s → r ≡ RefusedAt why m
      → HasReason E submitted.floor s why m

-- the reply of engine e of W to this act is true, if the act is a poll
abbrev pub PollsTruly : World → (e : ℕ) → WorldAct → Type 0
PollsTruly W e (Poll c serial) = (E : Engine) (r : Reply) → slice_get W.engines e ≡ Some E → (poll E c serial).reply ≡ Replied r
    → IsTrueReply E c serial r
PollsTruly W e act = ⊤

-- each poll of these steps, done one after another from W on, gets a true reply
abbrev pub AllPollTruly : World → List WorldStep → Type 0
AllPollTruly W [] = ⊤
AllPollTruly W (s ∷ steps) = PollsTruly W s.engine s.act × AllPollTruly (world_step W s).world steps
