-- What an engine publishes and sends stands in its history.
use Rattle.std.proofs.Common.{◌≡◌, ◌⊎◌, inl, inr, ℕ, zero, suc, not, List, [], ◌∷◌, ◌++◌, Option, Some, None, sym}
use Rattle.std.proofs.Common.{subst, slice_get}
use Rattle.semantics.specs.LegalHistory.{IsAmong}
use Rattle.semantics.specs.Vectors.{Vector, covers}
use Rattle.semantics.specs.Stamped.{Stamped}
use Rattle.semantics.specs.Entries.{Entry, stamped_entries, applied, missing}
use Rattle.semantics.specs.OneWorld.{AreWithin}
use Rattle.semantics.specs.Engine.{Engine, Message, Hello, Bundle, published_entries}
use Rattle.semantics.specs.PeerSteps.{lacked, answer_sent}
use Rattle.semantics.specs.World.{WorldAct, Push, Take, Publish, Give, WholeStep, Poll, Ask, Learn, SayHello, AnswerHello, Deliver, Lines}
use Rattle.semantics.specs.World.{CountDropped, sent_by}
use Rattle.semantics.specs.WorldHistory.{BeginsWith}
use Rattle.semantics.proofs.Beginnings.{begins_first}
use Rattle.semantics.proofs.AmongLists.{in_reverse, in_filter}

-- ---- beginnings

stamped_longer : (more F : List Entry) (s : Stamped) → IsAmong s (stamped_entries F) → IsAmong s (stamped_entries (more ++ F))
stamped_longer [] F s m = m
stamped_longer (e ∷ more) F s m = inr (stamped_longer more F s m)

applied_longer : (more F : List Entry) → AreWithin (applied F) (applied (more ++ F))
applied_longer [] F o m = m
applied_longer (e ∷ more) F o m = inr (applied_longer more F o m)

pub applied_begins : (G F : List Entry) → BeginsWith G F → AreWithin (applied F) (applied G)
applied_begins G F b = subst (λ (H : List Entry). AreWithin (applied F) (applied H)) (sym b.1) (applied_longer b.0 F)

pub published_within : (E : Engine) → AreWithin (applied (published_entries E)) (applied E.replica.entries)
published_within E = applied_begins E.replica.entries (published_entries E) (begins_first E.published E.replica.entries)

published_stamped : (E : Engine) (s : Stamped) → IsAmong s (stamped_entries (published_entries E))
    → IsAmong s (stamped_entries E.replica.entries)
published_stamped E s m =
    let b = begins_first E.published E.replica.entries in
    subst (λ (H : List Entry). IsAmong s (stamped_entries H)) (sym b.1) (stamped_longer b.0 (published_entries E) s m)

-- ---- what is sent

lacked_there : (E : Engine) (v : Vector) (s : Stamped) → IsAmong s (lacked E v) → IsAmong s (stamped_entries E.replica.entries)
lacked_there E v s m =
    published_stamped E s
    (in_filter (λ t. not (covers v t.id)) (stamped_entries (published_entries E)) s
    (in_reverse (missing v (stamped_entries (published_entries E))) s m))

answer_there : (E : Engine) (m : Option Message) (ss : List Stamped) → IsAmong (Bundle ss) (answer_sent E m) → (s : Stamped) → IsAmong s ss
    → IsAmong s (stamped_entries E.replica.entries)
answer_there E None ss n s m = absurd n
answer_there E (Some (Bundle ts)) ss n s m = absurd n
answer_there E (Some (Hello v)) ss (inl e) s m =
    let same : ss ≡ lacked E v = cc in lacked_there E v s (subst (IsAmong s) same m)
answer_there E (Some (Hello v)) ss (inr n) s m = absurd n

-- An operation of a bundle stands in the history of the engine that sends it.
pub sent_there : (ms : List Message) (w : WorldAct) (E : Engine) (ss : List Stamped) → IsAmong (Bundle ss) (sent_by ms w E) → (s : Stamped)
    → IsAmong s ss → IsAmong s (stamped_entries E.replica.entries)
sent_there ms (SayHello t) E ss (inl q) s m = cc
sent_there ms (SayHello t) E ss (inr n) s m = absurd n
sent_there ms (AnswerHello t k) E ss n s m = answer_there E (slice_get ms k) ss n s m
sent_there ms (Push c command) E ss n s m = absurd n
sent_there ms Take E ss n s m = absurd n
sent_there ms Publish E ss n s m = absurd n
sent_there ms Give E ss n s m = absurd n
sent_there ms WholeStep E ss n s m = absurd n
sent_there ms (Poll c serial) E ss n s m = absurd n
sent_there ms (Ask t q) E ss n s m = absurd n
sent_there ms (Learn t c serial) E ss n s m = absurd n
sent_there ms (Deliver c k) E ss n s m = absurd n
sent_there ms (Lines c ts bad) E ss n s m = absurd n
sent_there ms CountDropped E ss n s m = absurd n

-- a message was there before, or it was just sent
pub get-append_either : {X : Type 0} (xs ys : List X) (k : ℕ) (x : X) → slice_get (xs ++ ys) k ≡ Some x
    → (slice_get xs k ≡ Some x) ⊎ IsAmong x ys
get-append_either [] [] k x h = cc
get-append_either [] (y ∷ ys) zero x h = inr (inl cc)
get-append_either [] (y ∷ ys) (suc k) x h = elim (get-append_either [] ys k x h) [ inl e ↦ cc | inr m ↦ inr (inr m) ]
get-append_either (z ∷ xs) ys zero x h = inl h
get-append_either (z ∷ xs) ys (suc k) x h = get-append_either xs ys k x h
