-- What an engine has done of a step whose allocation failed.
use Rattle.std.specs.Prelude.{◌≡◌, ◌⊎◌, ℕ, ◌<◌, ◌≤◌, false, ◌||◌, not, nat_le, List, ◌∷◌, length}
use Rattle.semantics.specs.LegalHistory.{IsAmong}
use Rattle.semantics.specs.DocumentAnswer.{is_any}
use Rattle.semantics.specs.Stamped.{Stamped}
use Rattle.semantics.specs.LegalAnswer.{Submitted, OfPeer}
use Rattle.semantics.specs.Replica.{Replica}
use Rattle.semantics.specs.Delivery.{deliver}
use Rattle.semantics.specs.Drain.{counted, drain_for}
use Rattle.semantics.specs.Engine.{Engine, Message}
use Rattle.semantics.specs.WriteSteps.{after_submission, take_for}
use Rattle.semantics.specs.World.{WorldAct, Take, Publish, WholeStep, Deliver, Lines, engine_step}
use Rattle.semantics.specs.WorldHistory.{HasGrown}

-- the operation is that of a submission in the queue
abbrev pub IsQueued : Stamped → Engine → Type 0
IsQueued s E = (x : Submitted) × IsAmong x E.queue × (x.request ≡ OfPeer s)

-- E, F and G are an engine at three moments. History, published length, tokens and answers of F are at or beyond those of E, and at or
-- before those of G. What waits in F waited in E or was in E's queue, and what waits in G waits in F or is in F's queue.
pub record IsBetween (E F G : Engine) : Type 0 where
  pub beyond : HasGrown E F
  pub before : HasGrown F G
  pub waited : (s : Stamped) → IsAmong s F.replica.waiting → IsAmong s E.replica.waiting ⊎ IsQueued s E
  pub waits : (s : Stamped) → IsAmong s G.replica.waiting → IsAmong s F.replica.waiting ⊎ IsQueued s F

-- q is the replica r after a part of handling the submission x: a delivery and some turns of the drain after it, or nothing, or all of it
abbrev pub IsHandledInPart : Replica → Submitted → Replica → Type 0
IsHandledInPart r x q =
    (q ≡ r)
    ⊎ (q ≡ after_submission r x)
    ⊎ ((s : Stamped) × (n : ℕ) × (x.request ≡ OfPeer s) × (x.floor ≤ length r.entries) × (q ≡ counted (drain_for n (deliver r s))))

-- F is E after its oldest submission was handled in part. The submission is still in the queue.
pub record HandlesInPart (E F : Engine) : Type 0 where
  pub free : (is_any E.due || nat_le E.batch (length E.handled)) ≡ false
  pub submission : Submitted
  pub queue : List Submitted
  pub oldest : E.queue ≡ submission ∷ queue
  pub handled : IsHandledInPart E.replica submission F.replica
  pub same : F ≡ record E { replica = F.replica }

-- F is E after a part of a take
abbrev pub TakesInPart : Engine → Engine → Type 0
TakesInPart E F = (F ≡ E) ⊎ HandlesInPart E F

-- F is E after some of what was handled was published
pub record PublishesInPart (E F : Engine) : Type 0 where
  pub free : (is_any E.due || not (is_any E.handled)) ≡ false
  pub more : E.published ≤ F.published
  pub within : F.published ≤ length E.replica.entries
  pub same : F ≡ record E { published = F.published }

-- F is E after a part of a whole step: it stopped in a take, or in the publish after all takes
abbrev pub StepsInPart : Engine → Engine → Type 0
StepsInPart E F = ((n : ℕ) × (n < E.batch) × TakesInPart (take_for n E) F) ⊎ PublishesInPart (take_for E.batch E) F

-- F is E after a part of the act, after these messages
abbrev pub IsInPart : List Message → WorldAct → Engine → Engine → Type 0
IsInPart ms Take E F = TakesInPart E F
IsInPart ms Publish E F = PublishesInPart E F
IsInPart ms WholeStep E F = StepsInPart E F
IsInPart ms (Deliver c k) E F = IsBetween E F (engine_step ms (Deliver c k) E).engine
IsInPart ms (Lines c ss bad) E F = IsBetween E F (engine_step ms (Lines c ss bad) E).engine
IsInPart ms _ E F = F ≡ E
