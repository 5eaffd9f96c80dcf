-- Polls in a reached world get true replies.
use Rattle.std.proofs.Common.{◌≡◌, ◌⊎◌, inl, inr, ◌≤◌, ◌<◌, ℕ, List, [], ◌∷◌, Some, slice_get, refl, sym, ap, ◌∙◌, subst, arith}
use Rattle.ids.specs.declared.refusal.Refusal.{Refusal}
use Rattle.ids.specs.declared.refusal.Refusal.TheVariants.{BadFloor, NoMemory}
use Rattle.semantics.specs.Stamped.{Stamped}
use Rattle.semantics.specs.Entries.{Entry}
use Rattle.semantics.specs.Delivery.{NotKept}
use Rattle.semantics.specs.LegalAnswer.{Submitted, Request, OfCommand, OfPeer, Reply, RefusedAt}
use Rattle.semantics.specs.PeerAnswers.{IsAnswer, IsPeerAnswer, WasAnswered}
use Rattle.semantics.specs.Engine.{Engine, Replied, published_entries}
use Rattle.semantics.specs.ReadSteps.{poll}
use Rattle.semantics.specs.World as W
use Rattle.semantics.specs.WorldHistory.{IsNotBelow}
use Rattle.semantics.proofs.SoundEngines.{IsSound}
use Rattle.semantics.proofs.SoundWorlds.{sound_engine}
use Rattle.semantics.proofs.TruePeerAnswers.{refused_truly}
use Rattle.semantics.proofs.WorldReplies.{poll_legal}
use Rattle.world.specs.Polls.{AllPollTruly, HasReason, IsTrueReply, PollsTruly}
use Rattle.world.specs.Worlds.{IsReachedWorld}
use Rattle.world.proofs.ReachedWorlds.{reached_after}

reason_of : (E : Engine) (x : Submitted) (s : Stamped) (why : Refusal) (m : ℕ)
    → IsPeerAnswer E.replica.own E.replica.members (published_entries E) x s (RefusedAt why m) → IsNotBelow x.floor (RefusedAt why m)
    → HasReason E x.floor s why m
reason_of E x s why m (inl h) below = inr (refused_truly E.replica.own E.replica.members (published_entries E) s x.floor m why h)
reason_of E x s why m (inr (inl h)) below = inl h.0
reason_of E x s why m (inr (inr h)) below = absurd (omega (arith, h.1, below))

reasoned : (E : Engine) (x : Submitted) (r : Reply) → IsAnswer E.replica.own E.replica.members (published_entries E) x r
    → IsNotBelow x.floor r
    → (s : Stamped) (why : Refusal) (m : ℕ) → x.request ≡ OfPeer s → r ≡ RefusedAt why m → HasReason E x.floor s why m
reasoned E x r answer below s why m peer refused = reason_of E x s why m
    (subst (λ (q : Reply). IsPeerAnswer E.replica.own E.replica.members (published_entries E) x s q) refused
    (of_peer x.request answer peer))
    (subst (λ (q : Reply). IsNotBelow x.floor q) refused below)
  where
    of_peer : (q : Request)
        → IsAnswer E.replica.own E.replica.members (published_entries E) (record x { request = q }) r → q ≡ OfPeer s
        → IsPeerAnswer E.replica.own E.replica.members (published_entries E) x s r
    of_peer (OfPeer t) h is =
        let same : t ≡ s = cc in subst (λ (u : Stamped). IsPeerAnswer E.replica.own E.replica.members (published_entries E) x u r) same h
    of_peer (OfCommand c) h is = absurd cc

true_reply : (E : Engine) → IsSound E → (c serial : ℕ) (r : Reply) → (poll E c serial).reply ≡ Replied r → IsTrueReply E c serial r
true_reply E sound c serial r h =
    let p = poll_legal E sound c serial r h in record {
      submitted = p.0;
      was = p.1;
      answer = p.4;
      floor = p.5;
      reason = reasoned E p.0 r p.4 p.5;
    }

polls_truly : (V : W.World) → IsReachedWorld V → (e : ℕ) (a : W.WorldAct) → PollsTruly V e a
polls_truly V h e (W.Poll c serial) = λ E r there replied.
    true_reply E (sound_engine h.configurations h.steps e E (ap (λ (U : W.World). slice_get U.engines e) (sym h.after) ∙ there)) c serial r
    replied
polls_truly V h e (W.Push c x) = tt
polls_truly V h e W.Take = tt
polls_truly V h e W.Publish = tt
polls_truly V h e W.Give = tt
polls_truly V h e W.WholeStep = tt
polls_truly V h e (W.Ask t q) = tt
polls_truly V h e (W.Learn t c serial) = tt
polls_truly V h e (W.SayHello t) = tt
polls_truly V h e (W.AnswerHello t k) = tt
polls_truly V h e (W.Deliver c k) = tt
polls_truly V h e (W.Lines c ss bad) = tt
polls_truly V h e W.CountDropped = tt

pub all_poll_truly : (V : W.World) (steps : List W.WorldStep) → IsReachedWorld V → AllPollTruly V steps
all_poll_truly V [] h = tt
all_poll_truly V (s ∷ steps) h = (
  polls_truly V h s.engine s.act,
  all_poll_truly (W.world_step V s).world steps (reached_after V (W.world_step V s).world (s ∷ []) h refl),
)
