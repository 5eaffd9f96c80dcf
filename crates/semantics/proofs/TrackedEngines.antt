-- Engines of one world, and claims about them that are kept as they and the world go on.
use Rattle.std.proofs.Common.{◌≡◌, inl, inr, ℕ, List, refl, sym, ◌∙◌, subst}
use Rattle.semantics.specs.Operations.{Operation}
use Rattle.semantics.specs.LegalHistory.{IsLegal, IsAmong}
use Rattle.semantics.specs.Stamped.{Stamped}
use Rattle.semantics.specs.LegalAnswer.{Request, OfPeer, Submitted}
use Rattle.semantics.specs.Replica.{Replica}
use Rattle.semantics.specs.OneWorld.{AreWithin, IsOfWorld}
use Rattle.semantics.specs.Exchange.{IsSettled}
use Rattle.semantics.specs.Engine.{Engine}
use Rattle.semantics.specs.WriteSteps.{after_submission}
use Rattle.semantics.proofs.ItemsInTurn.{among_last}
use Rattle.semantics.proofs.SoundEngines.{IsSound, IsLater}
use Rattle.semantics.proofs.GrownWorlds.{IsGrownBy, grown_not, grown_further, of_grown, settled_elsewhere}
use Rattle.semantics.proofs.SettledItems.{GoesOn, item_handled}
use Rattle.semantics.proofs.FullHistories.{IsShort, item_short}
use Rattle.semantics.proofs.EngineMoves.{IsStill, HasSubmitted, HasTaken, IsKeptOn}

-- the request is a command, or a peer's operation of the world K
abbrev pub IsRequestOf : List Operation → Request → Type 0
IsRequestOf K q = (s : Stamped) → q ≡ OfPeer s → IsOfWorld K s

-- E is an engine of the world K: its replica is settled there, its history isn't too long, and what peers sent is of K
pub record IsEngineOf (K : List Operation) (E : Engine) : Type 0 where
  pub settled : IsSettled K E.replica.own E.replica
  pub short : IsShort E.replica
  pub queued : (x : Submitted) → IsAmong x E.queue → IsRequestOf K x.request

-- A claim about an engine of a world that is kept as both go on.
pub record IsTracked (Claim : List Operation → Engine → Type 0) : Type 0 where
  pub grown : (K L : List Operation) (E : Engine) → AreWithin K L → Claim K E → Claim L E
  pub still : (K : List Operation) (E F : Engine) → IsLater E F → IsStill E F → Claim K E → Claim K F
  pub submitted : (K : List Operation) (E F : Engine) (x : Submitted) → HasSubmitted E F x → Claim K E → Claim K F
  pub taken : (K : List Operation) (E F : Engine) (x : Submitted) → IsLegal K → IsSound E → IsEngineOf K E → HasTaken E F x → Claim K E
      → Claim K F

-- engine E, whose replica is p, in a world that K has grown to, with the claim
pub record HasGoneOn (Claim : List Operation → Engine → Type 0) (K : List Operation) (p : ℕ) (E : Engine) : Type 0 where
  pub world : List Operation
  pub grown : IsGrownBy p K world
  pub own : E.replica.own ≡ p
  pub engine : IsEngineOf world E
  pub claim : Claim world E

-- an engine stays one of its world as another one makes something
pub engine_elsewhere : (p : ℕ) (K L : List Operation) (E : Engine) → (p ≡ E.replica.own → ⊥) → IsGrownBy p K L → IsEngineOf K E
    → IsEngineOf L E
engine_elsewhere p K L E other g h = record {
  settled = settled_elsewhere p E.replica.own K L E.replica other g h.settled;
  short = h.short;
  queued = λ x m s is. of_grown K L s g.within (h.queued x m s is);
}

settled_as : (K : List Operation) (p : ℕ) (r t : Replica) → r ≡ t → IsSettled K p t → IsSettled K r.own r
settled_as K p r t same h = subst (λ (q : Replica). IsSettled K q.own q) (sym same) (subst (λ q. IsSettled K q t) (sym h.world.own) h)

module _ (Claim : List Operation → Engine → Type 0) (kept : IsTracked Claim) (K : List Operation) (p : ℕ) where
  gone_on_still : (E F : Engine) → IsLater E F → IsStill E F → HasGoneOn Claim K p E → HasGoneOn Claim K p F
  gone_on_still E F l still h = record {
    world = h.world;
    grown = h.grown;
    own = l.grown.own ∙ h.own;
    engine = record {
      settled = settled_as h.world E.replica.own F.replica E.replica still.0 h.engine.settled;
      short = subst IsShort (sym still.0) h.engine.short;
      queued = λ x m. h.engine.queued x (subst (IsAmong x) still.1 m);
    };
    claim = kept.still h.world E F l still h.claim;
  }

  gone_on_submitted : (E F : Engine) (x : Submitted) → IsSound E → HasSubmitted E F x → IsRequestOf K x.request → HasGoneOn Claim K p E
      → HasGoneOn Claim K p F
  gone_on_submitted E F x sound l of h = record {
    world = h.world;
    grown = h.grown;
    own = l.later.grown.own ∙ h.own;
    engine = record {
      settled = settled_as h.world E.replica.own F.replica E.replica l.replica h.engine.settled;
      short = subst IsShort (sym l.replica) h.engine.short;
      queued = λ y m. elim (among_last E.queue x y (subst (IsAmong y) l.queue m)) [
        | inl n ↦ h.engine.queued y n
        | inr e ↦ subst (λ (z : Submitted). IsRequestOf h.world z.request) (sym e) (λ s is. of_grown K h.world s h.grown.within (of s is))
      ];
    };
    claim = kept.submitted h.world E F x l h.claim;
  }

  gone_on_taken : (E F : Engine) (x : Submitted) → IsSound E → HasTaken E F x → HasGoneOn Claim K p E → HasGoneOn Claim K p F
  gone_on_taken E F x sound l h = record {
    world = next.world;
    grown = grown_further p K h.world next.world h.grown grown;
    own = l.later.grown.own ∙ h.own;
    engine = record {
      settled = settled_as next.world E.replica.own F.replica (after_submission E.replica x) l.replica next.settled;
      short = subst IsShort (sym l.replica) (item_short E.replica x h.engine.short);
      queued = λ y m s is. of_grown h.world next.world s grown.within (h.engine.queued y (subst (IsAmong y) (sym l.oldest) (inr m)) s is);
    };
    claim = kept.grown h.world next.world F grown.within (kept.taken h.world E F x h.grown.legal sound h.engine l h.claim);
  }
    where
      here : IsAmong x E.queue
      here = subst (IsAmong x) (sym l.oldest) (inl refl)

      next : GoesOn h.world E.replica.own (after_submission E.replica x)
      next = item_handled h.world h.grown.legal E.replica.own E.replica h.engine.settled x (sound.queued x here) (h.engine.queued x here)

      grown : IsGrownBy p h.world next.world
      grown = subst (λ q. IsGrownBy q h.world next.world) h.own next.grown

  -- The engine and its world go on together.
  pub kept_going : IsKeptOn (IsRequestOf K) (HasGoneOn Claim K p)
  kept_going = record { still = gone_on_still; submitted = gone_on_submitted; taken = gone_on_taken }

pub starts : (Claim : List Operation → Engine → Type 0) (K : List Operation) → IsLegal K → (E : Engine) → IsEngineOf K E → Claim K E
    → HasGoneOn Claim K E.replica.own E
starts Claim K l E h claim = record { world = K; grown = grown_not E.replica.own K l; own = refl; engine = h; claim = claim }
