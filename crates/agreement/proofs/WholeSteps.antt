-- A whole step of a world's engine, take by take and give by give.
use Rattle.std.proofs.Common.{◌≡◌, ℕ, zero, suc, ◌+◌, ◌-◌, ◌<◌, ◌≤◌, Bool, true, false, nat_le, List, [], ◌∷◌, ◌++◌, length, inl, refl, sym}
use Rattle.std.proofs.Common.{ap, ◌∙◌, subst, arith, append_assoc}
use Rattle.std.proofs.lemmas.Bool.{leb-false, lt-leb}
use Rattle.std.proofs.lemmas.List.{append-nil, length-append}
use Rattle.semantics.specs.LegalAnswer.{Submitted}
use Rattle.semantics.specs.Replica.{Replica}
use Rattle.semantics.specs.Engine.{Engine, Handled, Published}
use Rattle.semantics.specs.WriteSteps.{reply_to, take_submission, take_for, publish, give, give_oldest, give_for, answered_or_idle}
use Rattle.semantics.specs.WriteSteps.{handle_all}
use Rattle.semantics.specs.Batches.{items_of}
use Rattle.semantics.specs.Handling.{Handler, IsWhole, Runs}
use Rattle.agreement.specs.GrantedTurns.{AreGranted, Awaits, StepsAlike}

-- a granted run is a run
pub granted_runs : (w v : Handler) (hs : List Handled) → AreGranted w hs v → Runs w hs v
granted_runs w v [] e = e
granted_runs w v (h ∷ hs) g = (g.0, inl g.1, granted_runs g.0 v hs g.2)

-- an engine while it takes
abbrev taking : Engine → List Submitted → Replica → List Handled → Engine
taking E queue r handled = record E { queue = queue; replica = r; handled = handled; due = [] }

-- the submission with the reply that the rules give
abbrev as_rules : Handler → Handled → Handled
as_rules w h = record { submitted = h.submitted; reply = reply_to w.replica h.submitted }

-- one take, if the batch has room
one_take : (E : Engine) (h : Handled) (queue : List Submitted) (w u : Handler) (done : List Handled) → length done < E.batch
    → IsWhole w h.submitted h.reply u
    → (take_submission (taking E (h.submitted ∷ queue) w.replica done)).engine ≡ taking E queue u.replica (done ++ h ∷ [])
one_take E h queue w u done l whole =
    rw (lt-leb E.batch (length done) l)
    (ap (λ r. taking E queue r (done ++ as_rules w h ∷ [])) (sym whole.replica)
    ∙ ap (λ y. taking E queue u.replica (done ++ (record { submitted = h.submitted; reply = y }) ∷ [])) (sym whole.reply))

-- as many takes as there are submissions in the run
take_run : (E : Engine) (hs : List Handled) (rest : List Submitted) (w v : Handler) (done : List Handled)
    → length done + length hs ≤ E.batch → AreGranted w hs v
    → take_for (length hs) (taking E (items_of hs ++ rest) w.replica done) ≡ taking E rest v.replica (done ++ hs)
take_run E [] rest w v done l e =
    ap (λ (u : Handler). taking E rest u.replica done) (sym e) ∙ ap (taking E rest v.replica) (sym (append-nil done))
take_run E (h ∷ hs) rest w v done l g =
    ap (take_for (length hs)) (one_take E h (items_of hs ++ rest) w g.0 done (omega (arith, l)) g.1)
    ∙ take_run E hs rest g.0 v (done ++ h ∷ []) (omega (arith, l, length-append done (h ∷ []))) g.2
    ∙ ap (taking E rest v.replica) (append_assoc done (h ∷ []) hs)

take_for-idle : (n : ℕ) (e : Engine) → (take_submission e).engine ≡ e → take_for n e ≡ e
take_for-idle zero e idle = refl
take_for-idle (suc n) e idle = ap (take_for n) idle ∙ take_for-idle n e idle

take_for-sum : (a b : ℕ) (e : Engine) → take_for (a + b) e ≡ take_for b (take_for a e)
take_for-sum zero b e = let none : 0 + b ≡ b = omega arith in ap (λ n. take_for n e) none
take_for-sum (suc a) b e =
    let one : suc a + b ≡ suc (a + b) = omega arith in ap (λ n. take_for n e) one ∙ take_for-sum a b (take_submission e).engine

-- nothing is taken if nothing is left, or if the batch is full
no_take : (E : Engine) (rest : List Submitted) (r : Replica) (hs : List Handled) → (length hs < E.batch → rest ≡ [])
    → (take_submission (taking E rest r hs)).engine ≡ taking E rest r hs
no_take E [] r hs all = refl
no_take E (x ∷ rest) r hs all = by_room (nat_le E.batch (length hs)) refl
  where
    by_room : (b : Bool) → nat_le E.batch (length hs) ≡ b → (take_submission (taking E (x ∷ rest) r hs)).engine ≡ taking E (x ∷ rest) r hs
    by_room true e = rw e refl
    by_room false e = let none : x ∷ rest ≡ [] = all (leb-false E.batch (length hs) e) in absurd (cc)

-- everything that a whole step takes
take_all : (E : Engine) (hs : List Handled) (rest : List Submitted) (w v : Handler) → length hs ≤ E.batch
    → (length hs < E.batch → rest ≡ []) → AreGranted w hs v
    → take_for E.batch (taking E (items_of hs ++ rest) w.replica []) ≡ taking E rest v.replica hs
take_all E hs rest w v fits all g =
    let sum : E.batch ≡ length hs + (E.batch - length hs) = omega (arith, fits) in
    ap (λ n. take_for n (taking E (items_of hs ++ rest) w.replica [])) sum
    ∙ take_for-sum (length hs) (E.batch - length hs) (taking E (items_of hs ++ rest) w.replica [])
    ∙ ap (take_for (E.batch - length hs)) (take_run E hs rest w v [] (omega (arith, fits)) g)
    ∙ take_for-idle (E.batch - length hs) (taking E rest v.replica hs) (no_take E rest v.replica hs all)

-- what is then published
shown : (E : Engine) (hs : List Handled) (rest : List Submitted) (r : Replica) → 0 < length hs
    → (publish (taking E rest r hs)).engine ≡ record (taking E rest r []) { published = length r.entries; due = hs }
shown E [] rest r l = absurd (omega (arith, l))
shown E (h ∷ hs) rest r l = refl

-- only answers were set, and these are still due
pub record HasGiven (e f : Engine) (left : List Handled) : Type 0 where
  pub replica : f.replica ≡ e.replica
  pub published : f.published ≡ e.published
  pub queue : f.queue ≡ e.queue
  pub handled : f.handled ≡ e.handled
  pub due : f.due ≡ left

-- one give keeps all but the oldest answer that is due
one_give : (e : Engine) (h : Handled) (due : List Handled) → e.due ≡ h ∷ due → HasGiven e (give e).engine due
one_give e h due same = subst (λ d. HasGiven e (give_oldest e d).engine due) (sym same)
    (record { replica = refl; published = refl; queue = refl; handled = refl; due = refl })

pub give_all : (due : List Handled) (e : Engine) → e.due ≡ due → HasGiven e (give_for (length due) e) []
give_all [] e same = record { replica = refl; published = refl; queue = refl; handled = refl; due = same }
give_all (h ∷ due) e same =
    let one = one_give e h due same in
    let rest = give_all due (give e).engine one.due in
    record {
      replica = rest.replica ∙ one.replica;
      published = rest.published ∙ one.published;
      queue = rest.queue ∙ one.queue;
      handled = rest.handled ∙ one.handled;
      due = rest.due;
    }

some_answered : (hs : List Handled) → 0 < length hs → answered_or_idle (length hs) ≡ Published (length hs)
some_answered [] l = absurd (omega (arith, l))
some_answered (h ∷ hs) l = refl

-- the engine that awaits these submissions
awaiting : (E : Engine) (w : Handler) (hs : List Handled) (rest : List Submitted) → Awaits E w hs rest
    → E ≡ taking E (items_of hs ++ rest) w.replica []
awaiting E w hs rest a =
    ap (λ q. record E { queue = q }) a.queue
    ∙ ap (λ r. record E { queue = items_of hs ++ rest; replica = r }) a.replica
    ∙ ap (λ (h : List Handled). record E { queue = items_of hs ++ rest; replica = w.replica; handled = h }) a.handled
    ∙ ap (λ (d : List Handled). record E { queue = items_of hs ++ rest; replica = w.replica; handled = []; due = d }) a.due

-- what is handled and published in a whole step
handled_all : (E : Engine) (w v : Handler) (hs : List Handled) (rest : List Submitted) → Awaits E w hs rest → AreGranted w hs v
    → handle_all E ≡ record (taking E rest v.replica []) { published = length v.replica.entries; due = hs }
handled_all E w v hs rest a g =
    ap handle_all (awaiting E w hs rest a)
    ∙ ap (λ e. (publish e).engine) (take_all E hs rest w v a.batch a.all g)
    ∙ shown E hs rest v.replica a.some

pub steps_alike : (E : Engine) (w v : Handler) (hs : List Handled) (rest : List Submitted) → Awaits E w hs rest → AreGranted w hs v
    → StepsAlike E hs rest v
steps_alike E w v hs rest a g =
    let e = handled_all E w v hs rest a g in
    let due : (handle_all E).due ≡ hs = ap (λ (f : Engine). f.due) e in
    let gives = give_all (handle_all E).due (handle_all E) refl in
    record {
      replica = gives.replica ∙ ap (λ (f : Engine). f.replica) e;
      published = gives.published ∙ ap (λ (f : Engine). f.published) e;
      queue = gives.queue ∙ ap (λ (f : Engine). f.queue) e;
      handled = gives.handled ∙ ap (λ (f : Engine). f.handled) e;
      due = gives.due;
      reply = ap (λ (d : List Handled). answered_or_idle (length d)) due ∙ some_answered hs a.some;
      answers = due;
    }
