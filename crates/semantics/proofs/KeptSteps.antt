-- A claim about an engine that is kept as it goes on is kept by each step of a world.
use Rattle.std.proofs.Common.{◌≡◌, inl, inr, ℕ, zero, suc, false, List, [], ◌∷◌, length, Option, Some, None, refl}
use Rattle.std.proofs.Common.{sym, ap, ◌∙◌, slice_get, true≢false}
use Rattle.ids.specs.declared.refusal.Refusal.{Refusal}
use Rattle.semantics.specs.LegalHistory.{IsAmong}
use Rattle.semantics.specs.Stamped.{Stamped}
use Rattle.semantics.specs.Making.{Command}
use Rattle.semantics.specs.LegalAnswer.{Request, OfCommand, OfPeer}
use Rattle.semantics.specs.Engine.{Engine, Client, Message, Hello, Bundle}
use Rattle.semantics.specs.WriteSteps.{push, take_submission, publish, give, take_for, give_for, handle_all, whole_step}
use Rattle.semantics.specs.PeerSteps.{answer_hello, refusal_in, unless_refused, submit_all, receive_lines, receive_message}
use Rattle.semantics.specs.World.{WorldAct, Push, Take, Publish, Give, WholeStep, Poll, Ask, Learn, SayHello, AnswerHello, Deliver, Lines}
use Rattle.semantics.specs.World.{CountDropped, engine_step}
use Rattle.semantics.specs.WorldExchange.{is_of_lines}
use Rattle.semantics.proofs.SoundEngines.{IsSound}
use Rattle.semantics.proofs.SoundSubmitting.{pushed}
use Rattle.semantics.proofs.SoundTaking.{took}
use Rattle.semantics.proofs.SoundPublishing.{published}
use Rattle.semantics.proofs.SoundGiving.{answer_given}
use Rattle.semantics.proofs.SoundSteps.{taken_for, stepped}
use Rattle.semantics.proofs.EngineMoves.{IsStill, IsKeptOn, still_seen, still_polled, still_learnt, still_published, still_given}
use Rattle.semantics.proofs.EngineMoves.{kept_by_push, kept_by_take}

still_answered : (E : Engine) (t k : ℕ) (m : Option Message) → IsStill E (answer_hello E t k m).engine
still_answered E t k None = (refl, refl)
still_answered E t k (Some (Bundle ss)) = (refl, refl)
still_answered E t k (Some (Hello v)) = still_seen E t E.published

module _ (P : Request → Type 0) (Claim : Engine → Type 0) (kept : IsKeptOn P Claim) where
  -- ---- a whole step

  kept_by_takes : (n : ℕ) (E : Engine) → IsSound E → Claim E → Claim (take_for n E)
  kept_by_takes zero E s h = h
  kept_by_takes (suc n) E s h = kept_by_takes n (take_submission E).engine (took E s).sound (kept_by_take P Claim kept E s h)

  kept_by_gives : (n : ℕ) (E : Engine) → IsSound E → Claim E → Claim (give_for n E)
  kept_by_gives zero E s h = h
  kept_by_gives (suc n) E s h = kept_by_gives n (give E).engine (answer_given E s).sound
      (kept.still E (give E).engine (answer_given E s) (still_given E) h)

  kept_by_whole : (E : Engine) → IsSound E → Claim E → Claim (whole_step E).engine
  kept_by_whole E s h =
      let taken = (taken_for E.batch E s).sound in
      let shown = published (take_for E.batch E) taken in
      kept_by_gives (length (handle_all E).due) (handle_all E) shown.sound
      (kept.still (take_for E.batch E) (handle_all E) shown (still_published (take_for E.batch E)) (kept_by_takes E.batch E s h))

  -- ---- what a client receives

  kept_by_submits : (c : ℕ) (bad : Option Refusal) (n : ℕ) (E : Engine) (ss : List Stamped) → IsSound E
      → ((s : Stamped) → IsAmong s ss → P (OfPeer s)) → Claim E → Claim (submit_all c bad n E ss).engine
  kept_by_submits c bad n E [] s p h = h
  kept_by_submits c bad n E (x ∷ ss) s p h =
      at_refusal (kept_by_submits c bad (suc n) (push E c (OfPeer x)).engine ss (pushed E c (OfPeer x) s).sound (λ y m. p y (inr m))
      (kept_by_push P Claim kept E c (OfPeer x) s (p x (inl refl)) h)) (refusal_in (push E c (OfPeer x)).reply)
    where
      at_refusal : Claim (submit_all c bad (suc n) (push E c (OfPeer x)).engine ss).engine → (o : Option Refusal)
          → Claim (unless_refused E n o (submit_all c bad (suc n) (push E c (OfPeer x)).engine ss)).engine
      at_refusal rest None = rest
      at_refusal rest (Some why) = h

  kept_by_lines : (E : Engine) (c : ℕ) (ss : List Stamped) (bad : Option Refusal) → IsSound E
      → ((s : Stamped) → IsAmong s ss → P (OfPeer s)) → Claim E → Claim (receive_lines E c ss bad).engine
  kept_by_lines E c ss bad s p h = at_client (slice_get E.clients c) refl
    where
      at_client : (o : Option Client) → slice_get E.clients c ≡ o → Claim (receive_lines E c ss bad).engine
      at_client None e = rw e h
      at_client (Some k) e = rw e (kept_by_submits c bad 0 E ss s p h)

  kept_by_message : (E : Engine) (c : ℕ) (m : Option Message) → IsSound E
      → ((ss : List Stamped) (s : Stamped) → m ≡ Some (Bundle ss) → IsAmong s ss → P (OfPeer s)) → Claim E
      → Claim (receive_message E c m).engine
  kept_by_message E c None s p h = h
  kept_by_message E c (Some (Hello v)) s p h = h
  kept_by_message E c (Some (Bundle ss)) s p h =
      kept_by_lines E c ss None s (λ x m. p ss x refl m) h

  -- ---- each step

  -- P holds of what is submitted: of each command, and of each operation of a bundle and of the lines
  pub kept_by_act : (ms : List Message) (w : WorldAct) (E : Engine) → IsSound E
      → ((command : Command) → P (OfCommand command))
      → ((k : ℕ) (ss : List Stamped) (s : Stamped) → slice_get ms k ≡ Some (Bundle ss) → IsAmong s ss → P (OfPeer s))
      → ((c : ℕ) (ss : List Stamped) (bad : Option Refusal) (s : Stamped) → w ≡ Lines c ss bad → IsAmong s ss → P (OfPeer s)) → Claim E
      → Claim (engine_step ms w E).engine
  kept_by_act ms (Push c command) E s p q o h = kept_by_push P Claim kept E c (OfCommand command) s (p command) h
  kept_by_act ms Take E s p q o h = kept_by_take P Claim kept E s h
  kept_by_act ms Publish E s p q o h = kept.still E (publish E).engine (published E s) (still_published E) h
  kept_by_act ms Give E s p q o h = kept.still E (give E).engine (answer_given E s) (still_given E) h
  kept_by_act ms WholeStep E s p q o h = kept_by_whole E s h
  kept_by_act ms (Poll c serial) E s p q o h = kept.still E (engine_step ms (Poll c serial) E).engine (stepped ms (Poll c serial) E s)
      (still_polled E c serial) h
  kept_by_act ms (Ask t x) E s p q o h = kept.still E (engine_step ms (Ask t x) E).engine (stepped ms (Ask t x) E s)
      (still_seen E t E.published) h
  kept_by_act ms (Learn t c serial) E s p q o h = kept.still E (engine_step ms (Learn t c serial) E).engine
      (stepped ms (Learn t c serial) E s) (still_learnt E t c serial) h
  kept_by_act ms (SayHello t) E s p q o h = kept.still E (engine_step ms (SayHello t) E).engine (stepped ms (SayHello t) E s)
      (still_seen E t E.published) h
  kept_by_act ms (AnswerHello t k) E s p q o h = kept.still E (engine_step ms (AnswerHello t k) E).engine
      (stepped ms (AnswerHello t k) E s) (still_answered E t (length ms) (slice_get ms k)) h
  kept_by_act ms (Deliver c k) E s p q o h = kept_by_message E c (slice_get ms k) s (λ ss x m n. q k ss x m n) h
  kept_by_act ms (Lines c ss bad) E s p q o h = kept_by_lines E c ss bad s (λ x m. o c ss bad x refl m) h
  kept_by_act ms CountDropped E s p q o h = h

  -- the same of a step that receives no lines
  pub kept_by_step : (ms : List Message) (w : WorldAct) (E : Engine) → is_of_lines w ≡ false → IsSound E
      → ((command : Command) → P (OfCommand command))
      → ((k : ℕ) (ss : List Stamped) (s : Stamped) → slice_get ms k ≡ Some (Bundle ss) → IsAmong s ss → P (OfPeer s)) → Claim E
      → Claim (engine_step ms w E).engine
  kept_by_step ms w E l s p q h =
      kept_by_act ms w E s p q (λ c ss bad x is m. absurd (true≢false (sym (ap is_of_lines is) ∙ l))) h
