-- Each step of a world keeps its engine sound.
use Rattle.std.proofs.Common.{ℕ, zero, suc, List, length, slice_get}
use Rattle.semantics.specs.LegalAnswer.{OfCommand}
use Rattle.semantics.specs.Engine.{Engine, Message}
use Rattle.semantics.specs.WriteSteps.{take_submission, give, take_for, give_for, handle_all, whole_step}
use Rattle.semantics.specs.World.{WorldAct, Push, Take, Publish, Give, WholeStep, Poll, Ask, Learn, SayHello, AnswerHello, Deliver, Lines}
use Rattle.semantics.specs.World.{CountDropped, engine_step}
use Rattle.semantics.proofs.SoundEngines.{IsSound, IsLater}
use Rattle.semantics.proofs.SoundSeeing.{later_refl, later_trans, polled, asked, seen_all, learned}
use Rattle.semantics.proofs.SoundSubmitting.{pushed}
use Rattle.semantics.proofs.SoundReceiving.{hello_answered, lines_received, message_received}
use Rattle.semantics.proofs.SoundTaking.{took}
use Rattle.semantics.proofs.SoundPublishing.{published}
use Rattle.semantics.proofs.SoundGiving.{answer_given}

pub taken_for : (n : ℕ) (E : Engine) → IsSound E → IsLater E (take_for n E)
taken_for zero E s = later_refl E s
taken_for (suc n) E s =
    let one = took E s in
    later_trans E (take_submission E).engine (take_for n (take_submission E).engine) one (taken_for n (take_submission E).engine one.sound)

given_for : (n : ℕ) (E : Engine) → IsSound E → IsLater E (give_for n E)
given_for zero E s = later_refl E s
given_for (suc n) E s =
    let one = answer_given E s in
    later_trans E (give E).engine (give_for n (give E).engine) one (given_for n (give E).engine one.sound)

-- A whole step keeps an engine sound.
whole : (E : Engine) → IsSound E → IsLater E (whole_step E).engine
whole E s =
    let taken = taken_for E.batch E s in
    let shown = published (take_for E.batch E) taken.sound in
    let all = given_for (length (handle_all E).due) (handle_all E) shown.sound in
    later_trans E (take_for E.batch E) (whole_step E).engine taken
    (later_trans (take_for E.batch E) (handle_all E) (whole_step E).engine shown all)

-- Each step keeps its engine sound.
pub stepped : (ms : List Message) (w : WorldAct) (E : Engine) → IsSound E → IsLater E (engine_step ms w E).engine
stepped ms (Push c command) E s = pushed E c (OfCommand command) s
stepped ms Take E s = took E s
stepped ms Publish E s = published E s
stepped ms Give E s = answer_given E s
stepped ms WholeStep E s = whole E s
stepped ms (Poll c serial) E s = polled E c serial s
stepped ms (Ask t q) E s = asked E t q s
stepped ms (Learn t c serial) E s = learned E t c serial s
stepped ms (SayHello t) E s = seen_all E t s
stepped ms (AnswerHello t k) E s = hello_answered E t (length ms) (slice_get ms k) s
stepped ms (Deliver c k) E s = message_received E c (slice_get ms k) s
stepped ms (Lines c ss bad) E s = lines_received E c ss bad s
stepped ms CountDropped E s = later_refl E s
