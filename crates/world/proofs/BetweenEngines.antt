-- An engine in which a step is done in part is between what it was and what the whole step makes of it.
use Rattle.std.proofs.Common.{◌≡◌, ◌⊎◌, inl, inr, ℕ, zero, suc, ◌+◌, ◌-◌, ◌<◌, ◌≤◌, false, ◌||◌, not, nat_le, nat_lt, List, []}
use Rattle.std.proofs.Common.{◌∷◌, ◌++◌, length, refl, sym, ap, ◌∙◌, subst, arith}
use Rattle.std.proofs.lemmas.Bool.{cases_lt, le-ltb, or_parts}
use Rattle.semantics.specs.LegalHistory.{IsAmong}
use Rattle.semantics.specs.DocumentAnswer.{is_any}
use Rattle.semantics.specs.Stamped.{Stamped}
use Rattle.semantics.specs.Entries.{Entry}
use Rattle.semantics.specs.LegalAnswer.{OfPeer, Submitted}
use Rattle.semantics.specs.Replica.{Replica, IsRunning}
use Rattle.semantics.specs.Delivery.{answer_to, deliver}
use Rattle.semantics.specs.Drain.{counted, drain, drain_for, receive, Drains}
use Rattle.semantics.specs.Engine.{Engine, Handled, Message}
use Rattle.semantics.specs.WriteSteps.{after_submission, after_request, reply_to, take_submission, take_for, publish, give, give_for}
use Rattle.semantics.specs.WriteSteps.{handle_all}
use Rattle.semantics.specs.WriteSteps.{whole_step}
use Rattle.semantics.specs.World.{WorldAct, Push, Take, Publish, Give, WholeStep, Poll, Ask, Learn, SayHello, AnswerHello, Deliver, Lines}
use Rattle.semantics.specs.World.{CountDropped, engine_step}
use Rattle.semantics.specs.WorldHistory.{BeginsWith, HasGrown}
use Rattle.semantics.proofs.AmongLists.{among_left}
use Rattle.semantics.proofs.Delivered.{delivered}
use Rattle.semantics.proofs.Drained.{part_drained}
use Rattle.semantics.proofs.EarlyEnd.{goes_on}
use Rattle.semantics.proofs.EngineMoves.{still_published}
use Rattle.semantics.proofs.GrownEngines.{grown_refl, grown_trans, grown_by_history}
use Rattle.semantics.proofs.HandledItems.{handled}
use Rattle.semantics.proofs.ItemsInTurn.{among_cases, among_right}
use Rattle.semantics.proofs.ReceivedItems.{begins_with_peers, same_entries, same_members, same_own}
use Rattle.semantics.proofs.SoundEngines.{IsSound}
use Rattle.semantics.proofs.SoundGiving.{answer_given}
use Rattle.semantics.proofs.SoundPublishing.{none_due, published}
use Rattle.semantics.proofs.SoundSteps.{stepped, taken_for}
use Rattle.semantics.proofs.SoundTaking.{floor_within, took}
use Rattle.replica.proofs.Turns.{ended_by_count}
use Rattle.world.specs.Parts.{IsQueued, IsBetween, IsHandledInPart, TakesInPart, PublishesInPart, StepsInPart, IsInPart}
use Rattle.world.proofs.DrawnWaiting.{Draws, delivered_waits, draws_both, gives_draw, item_waits, rest_draws, step_waits, take_draws}
use Rattle.world.proofs.DrawnWaiting.{takes_draw}

-- ---- a drain that ended early

-- the entries and what waits after a drain
drain_begins : (r d : Replica) → Drains r d → BeginsWith d.entries r.entries
drain_begins r d h = let b = begins_with_peers h.appended r.entries in (b.0, h.entries ∙ b.1)

-- what a drain leaves after this many turns
left_drains : (n : ℕ) (d : Replica) → IsRunning d → Drains (drain_for n d) (drain d)
left_drains n d h = by (cases_lt (length d.waiting) n)
  where
    by : (length d.waiting < n) ⊎ (n ≤ length d.waiting) → Drains (drain_for n d) (drain d)
    by (inl l) = subst (Drains (drain_for n d)) (sym (ended_by_count n d h (omega arith)))
        (part_drained 0 (drain_for n d) (part_drained n d h).0).1
    by (inr l) =
        let all : drain d
        ≡ drain_for (length d.waiting - n) (drain_for n d) = ap (λ k. drain_for k d)
        (let e : length d.waiting ≡ n + (length d.waiting - n) = omega arith in e)
        ∙ goes_on n (length d.waiting - n) d in
        subst (Drains (drain_for n d)) (sym all) (part_drained (length d.waiting - n) (drain_for n d) (part_drained n d h).0).1

-- ---- a submission that is handled in part

-- the replica q is between r and what r is after the submission x
record IsWithin (r : Replica) (x : Submitted) (q : Replica) : Type 0 where
  pub own : q.own ≡ r.own
  pub own_after : (after_submission r x).own ≡ q.own
  pub members : q.members ≡ r.members
  pub members_after : (after_submission r x).members ≡ q.members
  pub begins : BeginsWith q.entries r.entries
  pub goes_on : BeginsWith (after_submission r x).entries q.entries
  pub waited : (o : Stamped) → IsAmong o q.waiting → IsAmong o r.waiting ⊎ (x.request ≡ OfPeer o)
  pub waits : (o : Stamped) → IsAmong o (after_submission r x).waiting → IsAmong o q.waiting ⊎ (x.request ≡ OfPeer o)

-- all of a submission that was delivered
peer_submission : (r : Replica) (x : Submitted) (s : Stamped) → x.request ≡ OfPeer s → x.floor ≤ length r.entries
    → after_submission r x ≡ counted (receive r s)
peer_submission r x s is floor =
    let low : nat_lt (length r.entries) x.floor ≡ false = le-ltb (length r.entries) x.floor floor in
    rw low (ap (after_request r x) is)

within_delivery : (r : Replica) (x : Submitted) (s : Stamped) (n : ℕ) → IsRunning r → x.request ≡ OfPeer s → x.floor ≤ length r.entries
    → IsWithin r x (counted (drain_for n (deliver r s)))
within_delivery r x s n h is floor =
    let d : Replica = deliver r s in
    let running : IsRunning d = delivered r s h in
    let part = (part_drained n d running).1 in
    let left = left_drains n d running in
    let all = peer_submission r x s is floor in
    let part_begins = drain_begins d (drain_for n d) part in
    let left_begins = drain_begins (drain_for n d) (drain d) left in record {
      own = part.own ∙ same_own r s (answer_to r s);
      own_after = ap (λ (p : Replica). p.own) all ∙ left.own;
      members = part.members ∙ same_members r s (answer_to r s);
      members_after = ap (λ (p : Replica). p.members) all ∙ left.members;
      begins = (part_begins.0, part_begins.1 ∙ ap (λ (G : List Entry). part_begins.0 ++ G) (same_entries r s (answer_to r s)));
      goes_on = (left_begins.0, ap (λ (p : Replica). p.entries) all ∙ left_begins.1);
      waited = λ o m. elim (delivered_waits r s o (part.waits o m)) [ inl e ↦ inr (is ∙ ap OfPeer (sym e)) | inr w ↦ inl w ];
      waits = λ o m. inl (left.waits o (subst (λ (p : Replica). IsAmong o p.waiting) all m));
    }

-- the replica before it, and after it
module _ (E : Engine) (x : Submitted) (queue : List Submitted) (s : IsSound E) (oldest : E.queue ≡ x ∷ queue) where
  its_floor : x.floor ≤ length E.replica.entries
  its_floor = floor_within E x queue s oldest

  before_it : IsWithin E.replica x E.replica
  before_it =
      let all = handled E.replica x s.running (s.queued x (subst (IsAmong x) (sym oldest) (inl refl))) its_floor in record {
        own = refl;
        own_after = all.own;
        members = refl;
        members_after = all.members;
        begins = ([], refl);
        goes_on = all.entries;
        waited = λ o m. inl m;
        waits = λ o m. item_waits E.replica x o s.running m;
      }

  after_it : IsWithin E.replica x (after_submission E.replica x)
  after_it =
      let all = handled E.replica x s.running (s.queued x (subst (IsAmong x) (sym oldest) (inl refl))) its_floor in record {
        own = all.own;
        own_after = refl;
        members = all.members;
        members_after = refl;
        begins = all.entries;
        goes_on = ([], refl);
        waited = λ o m. item_waits E.replica x o s.running m;
        waits = λ o m. inl m;
      }

  within : (q : Replica) → IsHandledInPart E.replica x q → IsWithin E.replica x q
  within q (inl e) = subst (IsWithin E.replica x) (sym e) before_it
  within q (inr (inl e)) = subst (IsWithin E.replica x) (sym e) after_it
  within q (inr (inr d)) = subst (IsWithin E.replica x) (sym d.4) (within_delivery E.replica x d.0 d.1 s.running d.2 d.3)

  -- the engine whose replica is q is between E and what E is after the take
  module _ (free : (is_any E.due || nat_le E.batch (length E.handled)) ≡ false) (q : Replica) (w : IsWithin E.replica x q) where
    abbrev answered : Handled
    answered = record { submitted = x; reply = reply_to E.replica x }

    abbrev F : Engine
    F = record E { replica = q }

    abbrev G : Engine
    G = record E { queue = queue; replica = after_submission E.replica x; handled = E.handled ++ answered ∷ [] }

    stays : (g : Handled) → IsAmong g (E.due ++ E.handled) → IsAmong g (E.due ++ (E.handled ++ answered ∷ []))
    stays g m = elim (among_cases E.due E.handled g m) [
      | inl a ↦ among_left E.due (E.handled ++ answered ∷ []) g a
      | inr a ↦ among_right E.due (E.handled ++ answered ∷ []) g (among_left E.handled (answered ∷ []) g a)
    ]

    queued : (o : Stamped) → x.request ≡ OfPeer o → IsQueued o E
    queued o is = (x, subst (IsAmong x) (sym oldest) (inl refl), is)

    taken_is : (take_submission E).engine ≡ G
    taken_is = rw (oldest, free) refl

    between_taken : IsBetween E F (take_submission E).engine
    between_taken = subst (IsBetween E F) (sym taken_is) (record {
      beyond = grown_by_history E q E.queue E.handled E.due E.published w.own w.members w.begins (omega arith) (λ g m. m);
      before = grown_by_history F (after_submission E.replica x) queue (E.handled ++ answered ∷ []) E.due E.published w.own_after
          w.members_after w.goes_on
          (omega arith) stays;
      waited = λ o m. elim (w.waited o m) [ inl a ↦ inl a | inr is ↦ inr (queued o is) ];
      waits = λ o m. elim (w.waits o m) [ inl a ↦ inl a | inr is ↦ inr (queued o is) ];
    })

-- ---- the parts of a step

-- nothing of it was done
pub not_begun : (ms : List Message) (w : WorldAct) (E : Engine) → IsSound E → IsBetween E E (engine_step ms w E).engine
not_begun ms w E s = record {
  beyond = grown_refl E;
  before = (stepped ms w E s).grown;
  waited = λ o m. inl m;
  waits = step_waits ms w E s;
}

-- an engine is between itself and itself
pub stays_between : (E : Engine) → IsBetween E E E
stays_between E = record { beyond = grown_refl E; before = grown_refl E; waited = λ o m. inl m; waits = λ o m. inl m }

not_begun_at : (ms : List Message) (w : WorldAct) (E F : Engine) → IsSound E → F ≡ E → IsBetween E F (engine_step ms w E).engine
not_begun_at ms w E F s same = subst (λ A. IsBetween E A (engine_step ms w E).engine) (sym same) (not_begun ms w E s)

took_in_part : (E F : Engine) → IsSound E → TakesInPart E F → IsBetween E F (take_submission E).engine
took_in_part E F s (inl same) = not_begun_at [] Take E F s same
took_in_part E F s (inr h) =
    subst (λ A. IsBetween E A (take_submission E).engine) (sym h.same)
    (between_taken E h.submission h.queue s h.oldest h.free F.replica (within E h.submission h.queue s h.oldest F.replica h.handled))

published_in_part : (E F : Engine) → IsSound E → PublishesInPart E F → IsBetween E F (publish E).engine
published_in_part E F s h =
    let part : Engine = record E { published = F.published } in
    let all : Engine = record E { published = length E.replica.entries; handled = []; due = E.handled } in
    let all_is : (publish E).engine ≡ all = rw h.free refl in
    let none : E.due ≡ [] = none_due E.due (or_parts (is_any E.due) (not (is_any E.handled)) h.free).0 in
    subst (λ A. IsBetween E A (publish E).engine) (sym h.same)
    (subst (IsBetween E part) (sym all_is) (record {
      beyond = grown_by_history E E.replica E.queue E.handled E.due F.published refl refl ([], refl) h.more (λ g m. m);
      before = grown_by_history part E.replica E.queue [] E.handled (length E.replica.entries) refl refl ([], refl) h.within
          (λ g m. among_left E.handled [] g (subst (λ (d : List Handled). IsAmong g (d ++ E.handled)) none m));
      waited = λ o m. inl m;
      waits = λ o m. inl m;
    }))

-- ---- a whole step

pub takes_then : (n m : ℕ) (E : Engine) → take_for (n + m) E ≡ take_for m (take_for n E)
takes_then zero m E = ap (λ k. take_for k E) (let e : zero + m ≡ m = omega arith in e)
takes_then (suc n) m E = ap (λ k. take_for k E) (let e : suc n + m ≡ suc (n + m) = omega arith in e)
    ∙ takes_then n m (take_submission E).engine

-- E leads to A, and B to G
wider : (E A F B G : Engine) → HasGrown E A → Draws E A → IsBetween A F B → ((x : Submitted) → IsAmong x B.queue → IsAmong x F.queue)
    → HasGrown B G → Draws B G → IsBetween E F G
wider E A F B G grown drawn h queue later draws = record {
  beyond = grown_trans E A F grown h.beyond;
  before = grown_trans F B G h.before later;
  waited = λ o m. elim (h.waited o m) [ inl w ↦ drawn.waits o w | inr q ↦ inr (q.0, drawn.queue q.0 q.1, q.2) ];
  waits = λ o m. elim (draws.waits o m) [ inl w ↦ h.waits o w | inr q ↦ inr (q.0, queue q.0 q.1, q.2) ];
}

-- this many answers
given_grown : (n : ℕ) (E : Engine) → IsSound E → HasGrown E (give_for n E)
given_grown zero E s = grown_refl E
given_grown (suc n) E s =
    let one = answer_given E s in
    grown_trans E (give E).engine (give_for n (give E).engine) one.grown (given_grown n (give E).engine one.sound)

-- the publish and the answers after all takes
ended_grown : (T : Engine) → IsSound T → (n : ℕ) → HasGrown T (give_for n (publish T).engine)
ended_grown T s n =
    let shown = published T s in
    grown_trans T (publish T).engine (give_for n (publish T).engine) shown.grown (given_grown n (publish T).engine shown.sound)

part_queue : (E F : Engine) → TakesInPart E F → F.queue ≡ E.queue
part_queue E F (inl same) = ap (λ (A : Engine). A.queue) same
part_queue E F (inr h) = ap (λ (A : Engine). A.queue) h.same

stepped_in_part : (E F : Engine) → IsSound E → StepsInPart E F → IsBetween E F (whole_step E).engine
stepped_in_part E F s (inl h) =
    let n : ℕ = h.0 in
    let left : ℕ = E.batch - (n + 1) in
    let A : Engine = take_for n E in
    let B : Engine = (take_submission A).engine in
    let T : Engine = take_for E.batch E in
    let answers : ℕ = length (handle_all E).due in
    let first = taken_for n E s in
    let next = took A first.sound in
    let rest = taken_for left B next.sound in
    let all : T ≡ take_for left B = ap (λ k. take_for k E) (let e : E.batch ≡ n + suc left = omega (arith, h.1) in e)
    ∙ takes_then n (suc left) E in
    let grown : HasGrown B T = subst (HasGrown B) (sym all) rest.grown in
    let drawn : Draws B T = subst (Draws B) (sym all) (takes_draw left B next.sound) in
    let sound : IsSound T = subst IsSound (sym all) rest.sound in
    wider E A F B (whole_step E).engine first.grown (takes_draw n E s) (took_in_part A F first.sound h.2)
    (λ x m. subst (IsAmong x) (sym (part_queue A F h.2)) ((take_draws A first.sound).queue x m))
    (grown_trans B T (whole_step E).engine grown (ended_grown T sound answers))
    (draws_both B T (whole_step E).engine drawn (rest_draws T answers))
stepped_in_part E F s (inr h) =
    let T : Engine = take_for E.batch E in
    let answers : ℕ = length (handle_all E).due in
    let all = taken_for E.batch E s in
    let shown = published T all.sound in
    let queue : F.queue ≡ T.queue = ap (λ (A : Engine). A.queue) h.same in
    wider E T F (publish T).engine (whole_step E).engine all.grown (takes_draw E.batch E s) (published_in_part T F all.sound h)
    (λ x m. subst (IsAmong x) (sym queue) (subst (IsAmong x) (still_published T).1 m))
    (given_grown answers (publish T).engine shown.sound)
    (gives_draw answers (publish T).engine)

-- ---- each step

pub begun : (ms : List Message) (w : WorldAct) (E F : Engine) → IsSound E → IsInPart ms w E F → IsBetween E F (engine_step ms w E).engine
begun ms Take E F s h = took_in_part E F s h
begun ms Publish E F s h = published_in_part E F s h
begun ms WholeStep E F s h = stepped_in_part E F s h
begun ms (Deliver c k) E F s h = h
begun ms (Lines c ss bad) E F s h = h
begun ms (Push c command) E F s h = not_begun_at ms (Push c command) E F s h
begun ms Give E F s h = not_begun_at ms Give E F s h
begun ms (Poll c serial) E F s h = not_begun_at ms (Poll c serial) E F s h
begun ms (Ask t q) E F s h = not_begun_at ms (Ask t q) E F s h
begun ms (Learn t c serial) E F s h = not_begun_at ms (Learn t c serial) E F s h
begun ms (SayHello t) E F s h = not_begun_at ms (SayHello t) E F s h
begun ms (AnswerHello t k) E F s h = not_begun_at ms (AnswerHello t k) E F s h
begun ms CountDropped E F s h = not_begun_at ms CountDropped E F s h
