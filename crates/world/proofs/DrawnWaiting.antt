-- What waits after a step waited before it, or was in the queue.
use Rattle.std.proofs.Common.{◌≡◌, ◌⊎◌, inl, inr, ℕ, zero, suc, Bool, true, false, ◌||◌, nat_le, nat_lt, List, [], ◌∷◌, length, Option}
use Rattle.std.proofs.Common.{Some, None, Result, Ok, Err, refl, sym, ap, ◌∙◌, subst, slice_get}
use Rattle.ids.specs.declared.refusal.Refusal.{Refusal}
use Rattle.semantics.specs.LegalHistory.{IsAmong}
use Rattle.semantics.specs.Operations.{Operation}
use Rattle.semantics.specs.DocumentAnswer.{is_any}
use Rattle.semantics.specs.Stamped.{Stamped}
use Rattle.semantics.specs.Making.{Command, make}
use Rattle.semantics.specs.LegalAnswer.{Request, OfCommand, OfPeer, Submitted}
use Rattle.semantics.specs.Replica.{Replica, IsRunning, operations}
use Rattle.semantics.specs.Delivery.{Delivered, Kept, Known, NotKept, answer_to, deliver, kept_by}
use Rattle.semantics.specs.Engine.{Engine, Client, Message, Hello, Bundle}
use Rattle.semantics.specs.WriteSteps.{push, after_made, after_request, after_submission, take_oldest, take_submission, take_for, publish}
use Rattle.semantics.specs.WriteSteps.{give}
use Rattle.semantics.specs.WriteSteps.{give_for, handle_all, whole_step}
use Rattle.semantics.specs.PeerSteps.{answer_hello, refusal_in, unless_refused, submit_all, receive_lines, receive_message}
use Rattle.semantics.specs.World.{WorldAct, Push, Take, Publish, Give, WholeStep, Poll, Ask, Learn, SayHello, AnswerHello, Deliver, Lines}
use Rattle.semantics.specs.World.{CountDropped, engine_step}
use Rattle.semantics.proofs.Delivered.{delivered}
use Rattle.semantics.proofs.Drained.{drained}
use Rattle.semantics.proofs.EngineMoves.{IsStill, still_seen, still_polled, still_learnt, still_published, still_given}
use Rattle.semantics.proofs.SoundEngines.{IsSound}
use Rattle.semantics.proofs.SoundTaking.{took}
use Rattle.semantics.proofs.Waiting.{in_put}
use Rattle.world.specs.Parts.{IsQueued}
use Rattle.world.proofs.SubmittedRequests.{push_keeps}

-- ---- replicas

-- what waits after a delivery is what was delivered, or waited
pub delivered_waits : (r : Replica) (s o : Stamped) → IsAmong o (deliver r s).waiting → (o ≡ s) ⊎ IsAmong o r.waiting
delivered_waits r s o = by (answer_to r s)
  where
    by : (d : Delivered) → IsAmong o (kept_by r s d).waiting → (o ≡ s) ⊎ IsAmong o r.waiting
    by Kept m = in_put s r.waiting o m
    by Known m = inr m
    by (NotKept why) m = inr m

-- what waits after a submission waited, or is the submission's operation
pub item_waits : (r : Replica) (x : Submitted) (o : Stamped) → IsRunning r → IsAmong o (after_submission r x).waiting
    → IsAmong o r.waiting ⊎ (x.request ≡ OfPeer o)
item_waits r x o h = at_floor (nat_lt (length r.entries) x.floor) refl
  where
    of_made : (c : Command) (m : Result Operation Refusal) → IsAmong o (after_made r x c m).waiting → IsAmong o r.waiting
    of_made c (Err why) m = m
    of_made c (Ok a) m = m

    of_peer : (s : Stamped) → x.request ≡ OfPeer s → IsAmong o (deliver r s).waiting → IsAmong o r.waiting ⊎ (x.request ≡ OfPeer o)
    of_peer s is m = elim (delivered_waits r s o m) [ inl e ↦ inr (is ∙ ap OfPeer (sym e)) | inr w ↦ inl w ]

    of_request : (q : Request) → x.request ≡ q → IsAmong o (after_request r x q).waiting → IsAmong o r.waiting ⊎ (x.request ≡ OfPeer o)
    of_request (OfCommand c) is m = inl (of_made c (make (operations r) r.own c) m)
    of_request (OfPeer s) is m = of_peer s is ((drained (deliver r s) (delivered r s h)).1.waits o m)

    at_floor : (b : Bool) → nat_lt (length r.entries) x.floor ≡ b → IsAmong o (after_submission r x).waiting
        → IsAmong o r.waiting ⊎ (x.request ≡ OfPeer o)
    at_floor true e = rw e (λ m. inl m)
    at_floor false e = rw e (of_request x.request refl)

-- ---- engines

-- what waits in G waited in E or was in its queue, and nothing was added to the queue
pub record Draws (E G : Engine) : Type 0 where
  pub waits : (s : Stamped) → IsAmong s G.replica.waiting → IsAmong s E.replica.waiting ⊎ IsQueued s E
  pub queue : (x : Submitted) → IsAmong x G.queue → IsAmong x E.queue

pub draws_still : (E G : Engine) → IsStill E G → Draws E G
draws_still E G still = record {
  waits = λ s m. inl (subst (λ (r : Replica). IsAmong s r.waiting) still.0 m);
  queue = λ x m. subst (IsAmong x) still.1 m;
}

pub draws_both : (E F G : Engine) → Draws E F → Draws F G → Draws E G
draws_both E F G a b = record {
  waits = λ s m. elim (b.waits s m) [ inl w ↦ a.waits s w | inr q ↦ inr (q.0, a.queue q.0 q.1, q.2) ];
  queue = λ x m. a.queue x (b.queue x m);
}

pub take_draws : (E : Engine) → IsSound E → Draws E (take_submission E).engine
take_draws E s = at_queue E.queue refl
  where
    at_test : (x : Submitted) (queue : List Submitted) → E.queue ≡ x ∷ queue → (b : Bool)
        → (is_any E.due || nat_le E.batch (length E.handled)) ≡ b → Draws E (take_oldest E (x ∷ queue)).engine
    at_test x queue e true f = rw f (draws_still E E (refl, refl))
    at_test x queue e false f = rw f (record {
      waits = λ o m. elim
          (item_waits E.replica x o s.running m) [ inl w ↦ inl w | inr is ↦ inr (x, subst (IsAmong x) (sym e) (inl refl), is) ];
      queue = λ y m. subst (IsAmong y) (sym e) (inr m);
    })

    at_queue : (queue : List Submitted) → E.queue ≡ queue → Draws E (take_oldest E queue).engine
    at_queue [] e = draws_still E E (refl, refl)
    at_queue (x ∷ queue) e = at_test x queue e (is_any E.due || nat_le E.batch (length E.handled)) refl

pub takes_draw : (n : ℕ) (E : Engine) → IsSound E → Draws E (take_for n E)
takes_draw zero E s = draws_still E E (refl, refl)
takes_draw (suc n) E s = draws_both E (take_submission E).engine (take_for n (take_submission E).engine) (take_draws E s)
    (takes_draw n (take_submission E).engine (took E s).sound)

pub gives_draw : (n : ℕ) (E : Engine) → Draws E (give_for n E)
gives_draw zero E = draws_still E E (refl, refl)
gives_draw (suc n) E = draws_both E (give E).engine (give_for n (give E).engine) (draws_still E (give E).engine (still_given E))
    (gives_draw n (give E).engine)

-- the publish and the answers of a whole step
pub rest_draws : (E : Engine) (n : ℕ) → Draws E (give_for n (publish E).engine)
rest_draws E n = draws_both E (publish E).engine (give_for n (publish E).engine) (draws_still E (publish E).engine (still_published E))
    (gives_draw n (publish E).engine)

-- ---- steps that leave the replica

all_still : (c : ℕ) (bad : Option Refusal) (n : ℕ) (E : Engine) (ss : List Stamped) → (submit_all c bad n E ss).engine.replica ≡ E.replica
all_still c bad n E [] = refl
all_still c bad n E (x ∷ ss) = at_refusal (all_still c bad (suc n) (push E c (OfPeer x)).engine ss ∙ (push_keeps E c (OfPeer x)).replica)
    (refusal_in (push E c (OfPeer x)).reply)
  where
    at_refusal : (submit_all c bad (suc n) (push E c (OfPeer x)).engine ss).engine.replica ≡ E.replica → (o : Option Refusal)
        → (unless_refused E n o (submit_all c bad (suc n) (push E c (OfPeer x)).engine ss)).engine.replica ≡ E.replica
    at_refusal rest None = rest
    at_refusal rest (Some why) = refl

receive_still : (E : Engine) (c : ℕ) (ss : List Stamped) (bad : Option Refusal) → (receive_lines E c ss bad).engine.replica ≡ E.replica
receive_still E c ss bad = at_client (slice_get E.clients c) refl
  where
    at_client : (o : Option Client) → slice_get E.clients c ≡ o → (receive_lines E c ss bad).engine.replica ≡ E.replica
    at_client None e = rw e refl
    at_client (Some k) e = rw e (all_still c bad 0 E ss)

message_still : (E : Engine) (c : ℕ) (m : Option Message) → (receive_message E c m).engine.replica ≡ E.replica
message_still E c None = refl
message_still E c (Some (Hello v)) = refl
message_still E c (Some (Bundle ss)) = receive_still E c ss None

answer_still : (E : Engine) (t k : ℕ) (m : Option Message) → (answer_hello E t k m).engine.replica ≡ E.replica
answer_still E t k None = refl
answer_still E t k (Some (Bundle ss)) = refl
answer_still E t k (Some (Hello v)) = (still_seen E t E.published).0

-- ---- each step

-- if the replica stays, so does what waits
pub waits_still : (E G : Engine) → G.replica ≡ E.replica → (s : Stamped) → IsAmong s G.replica.waiting
    → IsAmong s E.replica.waiting ⊎ IsQueued s E
waits_still E G same s m = inl (subst (λ (r : Replica). IsAmong s r.waiting) same m)

pub step_waits : (ms : List Message) (w : WorldAct) (E : Engine) → IsSound E → (s : Stamped)
    → IsAmong s (engine_step ms w E).engine.replica.waiting → IsAmong s E.replica.waiting ⊎ IsQueued s E
step_waits ms (Push c command) E h = waits_still E (push E c (OfCommand command)).engine (push_keeps E c (OfCommand command)).replica
step_waits ms Take E h = (take_draws E h).waits
step_waits ms Publish E h = waits_still E (publish E).engine (still_published E).0
step_waits ms Give E h = waits_still E (give E).engine (still_given E).0
step_waits ms WholeStep E h = (draws_both E (take_for E.batch E) (whole_step E).engine (takes_draw E.batch E h)
    (rest_draws (take_for E.batch E) (length (handle_all E).due))).waits
step_waits ms (Poll c serial) E h = waits_still E (engine_step ms (Poll c serial) E).engine (still_polled E c serial).0
step_waits ms (Ask t q) E h = waits_still E (engine_step ms (Ask t q) E).engine (still_seen E t E.published).0
step_waits ms (Learn t c serial) E h = waits_still E (engine_step ms (Learn t c serial) E).engine (still_learnt E t c serial).0
step_waits ms (SayHello t) E h = waits_still E (engine_step ms (SayHello t) E).engine (still_seen E t E.published).0
step_waits ms (AnswerHello t k) E h = waits_still E (engine_step ms (AnswerHello t k) E).engine
    (answer_still E t (length ms) (slice_get ms k))
step_waits ms (Deliver c k) E h = waits_still E (engine_step ms (Deliver c k) E).engine (message_still E c (slice_get ms k))
step_waits ms (Lines c ss bad) E h = waits_still E (engine_step ms (Lines c ss bad) E).engine (receive_still E c ss bad)
step_waits ms CountDropped E h = waits_still E E refl

-- what a client submits leaves what waits unchanged
pub submits_wait : (c : ℕ) (bad : Option Refusal) (n : ℕ) (E : Engine) (ss : List Stamped) (s : Stamped)
    → IsAmong s (submit_all c bad n E ss).engine.replica.waiting → IsAmong s E.replica.waiting ⊎ IsQueued s E
submits_wait c bad n E ss = waits_still E (submit_all c bad n E ss).engine (all_still c bad n E ss)
