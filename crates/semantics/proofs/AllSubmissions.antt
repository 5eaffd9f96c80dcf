-- In every run of a world all that clients submitted is there.
use Rattle.std.proofs.Common.{◌≡◌, inl, inr, ℕ, zero, suc, max, List, [], ◌∷◌, replicate, length, Option, Some, None}
use Rattle.std.proofs.Common.{refl, sym, ap, ◌∙◌, subst, slice_get, slice_set}
use Rattle.std.proofs.lemmas.Bool.{cases_eq}
use Rattle.ids.specs.Configurations.{Configuration}
use Rattle.ids.specs.declared.refusal.Refusal.{Refusal}
use Rattle.semantics.specs.Stamped.{Stamped}
use Rattle.semantics.specs.LegalAnswer.{OfCommand, OfPeer}
use Rattle.semantics.specs.Engine.{Engine, Client, Cell, Given, Message, Hello, Bundle}
use Rattle.semantics.specs.WriteSteps.{push, take_submission, give, take_for, give_for, handle_all, whole_step}
use Rattle.semantics.specs.ReadSteps.{cell_at, cell_under, poll_cell, poll, see, learn}
use Rattle.semantics.specs.PeerSteps.{answer_hello, refusal_in, unless_refused, submit_all, receive_lines, receive_message}
use Rattle.semantics.specs.World.{WorldAct, opened_engine, World, opened, WorldStep, Push, Take, Publish, Give, WholeStep, Poll, Ask, Learn}
use Rattle.semantics.specs.World.{SayHello, AnswerHello, Deliver, Lines, CountDropped, engine_step, world_step, world_after}
use Rattle.semantics.specs.WorldHistory.{IsEngineAfter, cells_of, HasAllSubmitted}
use Rattle.semantics.proofs.SetElements.{get-set_same, get-set_other, get-set_cases}
use Rattle.semantics.proofs.KeptSubmissions.{IsComplete, cells_in, complete_still, complete_taken, complete_published}
use Rattle.semantics.proofs.KeptSubmitting.{complete_pushed}
use Rattle.semantics.proofs.KeptGiving.{complete_given}

-- ---- tokens see

-- a client that has seen more has the cells that it had
client_seen : (E : Engine) (c : ℕ) (k : Client) (m : ℕ) → slice_get E.clients c ≡ Some k → IsComplete E
    → IsComplete (record E { clients = slice_set E.clients c (record k { seen = m }) })
client_seen E c k m there h = complete_still E _ same refl h
  where
    same : (d : ℕ) → cells_in (slice_get (slice_set E.clients c (record k { seen = m })) d) ≡ cells_of E d
    same d = elim (cases_eq d c) [
      | inl e ↦
          ap (λ i. cells_in (slice_get (slice_set E.clients c (record k { seen = m })) i)) e
          ∙ ap cells_in (get-set_same E.clients c k (record k { seen = m }) there)
          ∙ sym (ap (cells_of E) e ∙ ap cells_in there)
      | inr n ↦ ap cells_in (get-set_other E.clients c d (record k { seen = m }) n)
    ]

complete_seen : (E : Engine) (t m : ℕ) → IsComplete E → IsComplete (see E t m)
complete_seen E t m h = at_client (slice_get E.clients t) refl
  where
    at_client : (o : Option Client) → slice_get E.clients t ≡ o → IsComplete (see E t m)
    at_client None e = rw e (complete_still E _ (λ d. refl) refl h)
    at_client (Some k) e = rw e (client_seen E t k m e h)

complete_polled : (E : Engine) (c serial : ℕ) → IsComplete E → IsComplete (poll E c serial).engine
complete_polled E c serial h = at_client (slice_get E.clients c) refl
  where
    at_answer : (k : Client) → slice_get E.clients c ≡ Some k → (cell : Cell) (o : Option Given) → cell.answer ≡ o
        → IsComplete (poll_cell E c k (Some cell)).engine
    at_answer k there cell None e = rw e h
    at_answer k there cell (Some g) e = rw e (client_seen E c k (max k.seen g.published) there h)

    at_cell : (k : Client) → slice_get E.clients c ≡ Some k → (o : Option Cell) → IsComplete (poll_cell E c k o).engine
    at_cell k there None = h
    at_cell k there (Some cell) = at_answer k there cell cell.answer refl

    at_client : (o : Option Client) → slice_get E.clients c ≡ o → IsComplete (poll E c serial).engine
    at_client None e = rw e h
    at_client (Some k) e = rw e (at_cell k e (cell_at k.cells serial))

complete_learnt : (E : Engine) (t c serial : ℕ) → IsComplete E → IsComplete (learn E t c serial).engine
complete_learnt E t c serial h = at_cell (cell_under E c serial) refl
  where
    at_answer : (cell : Cell) → cell_under E c serial ≡ Some cell → (o : Option Given) → cell.answer ≡ o
        → IsComplete (learn E t c serial).engine
    at_answer cell e None f = rw (e, f) h
    at_answer cell e (Some g) f = rw (e, f) (complete_seen E t _ h)

    at_cell : (o : Option Cell) → cell_under E c serial ≡ o → IsComplete (learn E t c serial).engine
    at_cell None e = rw e h
    at_cell (Some cell) e = at_answer cell e cell.answer refl

complete_answered : (E : Engine) (t k : ℕ) (m : Option Message) → IsComplete E → IsComplete (answer_hello E t k m).engine
complete_answered E t k None h = h
complete_answered E t k (Some (Bundle ss)) h = h
complete_answered E t k (Some (Hello v)) h = complete_seen E t E.published h

-- ---- a whole step, and what a client receives

complete_takes : (n : ℕ) (E : Engine) → IsComplete E → IsComplete (take_for n E)
complete_takes zero E h = h
complete_takes (suc n) E h = complete_takes n (take_submission E).engine (complete_taken E h)

complete_gives : (n : ℕ) (E : Engine) → IsComplete E → IsComplete (give_for n E)
complete_gives zero E h = h
complete_gives (suc n) E h = complete_gives n (give E).engine (complete_given E h)

complete_whole : (E : Engine) → IsComplete E → IsComplete (whole_step E).engine
complete_whole E h =
    complete_gives (length (handle_all E).due) (handle_all E) (complete_published (take_for E.batch E) (complete_takes E.batch E h))

complete_submits : (c : ℕ) (bad : Option Refusal) (n : ℕ) (E : Engine) (ss : List Stamped) → IsComplete E
    → IsComplete (submit_all c bad n E ss).engine
complete_submits c bad n E [] h = h
complete_submits c bad n E (s ∷ ss) h =
    let rest = complete_submits c bad (suc n) (push E c (OfPeer s)).engine ss (complete_pushed E c (OfPeer s) h) in
    at_refusal rest (refusal_in (push E c (OfPeer s)).reply)
  where
    at_refusal : IsComplete (submit_all c bad (suc n) (push E c (OfPeer s)).engine ss).engine → (o : Option Refusal)
        → IsComplete (unless_refused E n o (submit_all c bad (suc n) (push E c (OfPeer s)).engine ss)).engine
    at_refusal rest None = rest
    at_refusal rest (Some why) = h

complete_lines : (E : Engine) (c : ℕ) (ss : List Stamped) (bad : Option Refusal) → IsComplete E
    → IsComplete (receive_lines E c ss bad).engine
complete_lines E c ss bad h = at_client (slice_get E.clients c) refl
  where
    at_client : (o : Option Client) → slice_get E.clients c ≡ o → IsComplete (receive_lines E c ss bad).engine
    at_client None e = rw e h
    at_client (Some k) e = rw e (complete_submits c bad 0 E ss h)

complete_message : (E : Engine) (c : ℕ) (m : Option Message) → IsComplete E → IsComplete (receive_message E c m).engine
complete_message E c None h = h
complete_message E c (Some (Hello v)) h = h
complete_message E c (Some (Bundle ss)) h =
    complete_lines E c ss None h

-- ---- each step

complete_step : (ms : List Message) (w : WorldAct) (E : Engine) → IsComplete E → IsComplete (engine_step ms w E).engine
complete_step ms (Push c command) E h = complete_pushed E c (OfCommand command) h
complete_step ms Take E h = complete_taken E h
complete_step ms Publish E h = complete_published E h
complete_step ms Give E h = complete_given E h
complete_step ms WholeStep E h = complete_whole E h
complete_step ms (Poll c serial) E h = complete_polled E c serial h
complete_step ms (Ask t q) E h = complete_seen E t E.published h
complete_step ms (Learn t c serial) E h = complete_learnt E t c serial h
complete_step ms (SayHello t) E h = complete_seen E t E.published h
complete_step ms (AnswerHello t k) E h = complete_answered E t (length ms) (slice_get ms k) h
complete_step ms (Deliver c k) E h = complete_message E c (slice_get ms k) h
complete_step ms (Lines c ss bad) E h = complete_lines E c ss bad h
complete_step ms CountDropped E h = h

-- ---- every run

-- all engines of the world are complete
abbrev AreComplete : World → Type 0
AreComplete W = (e : ℕ) (E : Engine) → slice_get W.engines e ≡ Some E → IsComplete E

complete_opened_engine : (c : Configuration) → IsComplete (opened_engine c)
complete_opened_engine c d = record {
  serials = λ n cell w. absurd (none n cell (sym (ap (λ cs. slice_get cs n) (no_cells c.clients d)) ∙ w));
  answered = [];
  given = λ cell m. absurd m;
  cells = no_cells c.clients d;
}
  where
    none : (n : ℕ) (cell : Cell) → slice_get [] n ≡ Some cell → ⊥
    none n cell w = cc

    no_cells : (m i : ℕ) → cells_in (slice_get (replicate m (record { seen = 0; cells = [] })) i) ≡ []
    no_cells zero i = refl
    no_cells (suc m) zero = refl
    no_cells (suc m) (suc i) = no_cells m i

complete_opened : (cs : List Configuration) → AreComplete (opened cs)
complete_opened [] e E h = cc
complete_opened (c ∷ cs) zero E h = (let is : opened_engine c ≡ E = cc in subst IsComplete is (complete_opened_engine c))
complete_opened (c ∷ cs) (suc e) E h = complete_opened cs e E h

world_complete : (W : World) (w : WorldStep) → AreComplete W → AreComplete (world_step W w).world
world_complete W w h = at_engine (slice_get W.engines w.engine) refl
  where
    at_engine : (o : Option Engine) → slice_get W.engines w.engine ≡ o → AreComplete (world_step W w).world
    at_engine None e = rw e h
    at_engine (Some E) e = rw e (λ d F i. elim (get-set_cases W.engines w.engine d E (engine_step W.messages w.act E).engine F e i) [
      | inl q ↦ subst IsComplete (sym q.1) (complete_step W.messages w.act E (h w.engine E e))
      | inr o ↦ h d F o
    ])

complete_after : (W : World) (steps : List WorldStep) → AreComplete W → AreComplete (world_after W steps)
complete_after W [] h = h
complete_after W (w ∷ steps) h = complete_after (world_step W w).world steps (world_complete W w h)

-- In every run everything that a client submitted is there.
pub all_submitted : (cs : List Configuration) (steps : List WorldStep) (e : ℕ) (E : Engine) → IsEngineAfter cs steps e E → (c : ℕ)
    → HasAllSubmitted E c
all_submitted cs steps e E h = complete_after (opened cs) steps (complete_opened cs) e E h
