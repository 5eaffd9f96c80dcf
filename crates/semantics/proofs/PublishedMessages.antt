-- What a step sends is published.
use Rattle.std.proofs.Common.{◌≡◌, inl, inr, not, List, Option, Some, None, refl, sym, subst, slice_get}
use Rattle.semantics.specs.Vectors.{Vector, covers}
use Rattle.semantics.specs.LegalHistory.{IsAmong}
use Rattle.semantics.specs.NamedIds.{vector_of}
use Rattle.semantics.specs.Stamped.{Stamped}
use Rattle.semantics.specs.Entries.{applied, stamped_entries, missing}
use Rattle.semantics.specs.Engine.{Engine, Message, Hello, Bundle, published_entries}
use Rattle.semantics.specs.PeerSteps.{answer_sent, lacked}
use Rattle.semantics.specs.World.{WorldAct, Push, Take, Publish, Give, WholeStep, Poll, Ask, Learn, SayHello, AnswerHello, Deliver, Lines}
use Rattle.semantics.specs.World.{CountDropped, sent_by}
use Rattle.semantics.proofs.AmongLists.{in_reverse, in_filter}

-- a hello of the vector of what is published, or a bundle of published operations
abbrev IsPublished : Engine → Message → Type 0
IsPublished E (Hello v) = v ≡ vector_of (applied (published_entries E))
IsPublished E (Bundle ss) = (s : Stamped) → IsAmong s ss → IsAmong s (stamped_entries (published_entries E))

lacked_published : (E : Engine) (v : Vector) (s : Stamped) → IsAmong s (lacked E v) → IsAmong s (stamped_entries (published_entries E))
lacked_published E v s m = in_filter (λ x. not (covers v x.id)) (stamped_entries (published_entries E)) s
    (in_reverse (missing v (stamped_entries (published_entries E))) s m)

answer_published : (E : Engine) (o : Option Message) (m : Message) → IsAmong m (answer_sent E o) → IsPublished E m
answer_published E None m h = absurd h
answer_published E (Some (Bundle ss)) m h = absurd h
answer_published E (Some (Hello v)) m (inl e) = subst (IsPublished E) (sym e) (lacked_published E v)
answer_published E (Some (Hello v)) m (inr n) = absurd n

sent_published : (ms : List Message) (act : WorldAct) (E : Engine) (m : Message) → IsAmong m (sent_by ms act E) → IsPublished E m
sent_published ms (SayHello t) E m (inl h) = subst (IsPublished E) (sym h) refl
sent_published ms (SayHello t) E m (inr n) = absurd n
sent_published ms (AnswerHello t k) E m h = answer_published E (slice_get ms k) m h
sent_published ms (Push c command) E m h = absurd h
sent_published ms Take E m h = absurd h
sent_published ms Publish E m h = absurd h
sent_published ms Give E m h = absurd h
sent_published ms WholeStep E m h = absurd h
sent_published ms (Poll c serial) E m h = absurd h
sent_published ms (Ask t q) E m h = absurd h
sent_published ms (Learn t c serial) E m h = absurd h
sent_published ms (Deliver c k) E m h = absurd h
sent_published ms (Lines c ss bad) E m h = absurd h
sent_published ms CountDropped E m h = absurd h

pub hello_published : (ms : List Message) (act : WorldAct) (E : Engine) (v : Vector) → IsAmong (Hello v) (sent_by ms act E)
    → v ≡ vector_of (applied (published_entries E))
hello_published ms act E v m = sent_published ms act E (Hello v) m

pub bundle_published : (ms : List Message) (act : WorldAct) (E : Engine) (ss : List Stamped) → IsAmong (Bundle ss) (sent_by ms act E)
    → (s : Stamped) → IsAmong s ss → IsAmong s (stamped_entries (published_entries E))
bundle_published ms act E ss m = sent_published ms act E (Bundle ss) m
