-- An engine stays sound when the writer sets the answer to the oldest item that is due.
use Rattle.std.proofs.Common.{◌≡◌, inl, inr, ℕ, suc, ◌<◌, ◌≤◌, List, [], ◌∷◌, Option, Some, None, refl, sym, ap, ◌∙◌, subst, arith}
use Rattle.std.proofs.Common.{slice_get}
use Rattle.std.proofs.lemmas.Bool.{cases_eq}
use Rattle.std.proofs.lemmas.Option.{none-some}
use Rattle.semantics.specs.LegalHistory.{IsAmong}
use Rattle.semantics.specs.Entries.{IsAbove}
use Rattle.semantics.specs.LegalAnswer.{Submitted}
use Rattle.semantics.specs.Engine.{Engine, Client, Cell, Given, Handled, published_entries}
use Rattle.semantics.specs.WriteSteps.{with_answer, give_oldest, give}
use Rattle.semantics.specs.ReadSteps.{cell_at, cell_under}
use Rattle.semantics.proofs.ClientCells.{answered_there, answered_elsewhere, length-answered}
use Rattle.semantics.proofs.LastingAnswers.{IsGoodReply}
use Rattle.semantics.proofs.SetElements.{get-set_same}
use Rattle.semantics.proofs.MovedTokens.{HasMoved, with_client, cell_of, IsStillReplied, grown_by_client}
use Rattle.semantics.proofs.SoundEngines.{waiting_items, IsInTurn, open_cell, IsSoundCell, IsSoundClient, IsSound, IsLater}
use Rattle.semantics.proofs.SoundClients.{cell_moved, sound_by_client}
use Rattle.semantics.proofs.SoundSeeing.{later_refl}

module _ (E : Engine) (h : Handled) (due : List Handled) (s : IsSound E) (oldest : E.due ≡ h ∷ due) (k : Client)
    (there : slice_get E.clients h.submitted.client ≡ Some k) where
  -- the item, its answer, and its client and the engine then
  abbrev item : Submitted
  item = h.submitted

  abbrev answer : Given
  answer = record { reply = h.reply; published = E.published }

  abbrev answered : Client
  answered = with_answer k item.serial answer

  abbrev after : Engine
  after = with_client E E.queue due item.client answered

  in_turn : IsInTurn (waiting_items (h ∷ due) E.handled E.queue)
  in_turn = subst (λ (d : List Handled). IsInTurn (waiting_items d E.handled E.queue)) oldest s.turns

  was_open : (x : Submitted) → IsAmong x (waiting_items (h ∷ due) E.handled E.queue) → cell_under E x.client x.serial ≡ Some (open_cell x)
  was_open x m = s.unanswered x (subst (λ (d : List Handled). IsAmong x (waiting_items d E.handled E.queue)) (sym oldest) m)

  good : IsGoodReply E.replica.own E.replica.members (published_entries E) item h.reply
  good = s.due h (subst (IsAmong h) (sym oldest) (inl refl))

  its_cell : cell_at k.cells item.serial ≡ Some (open_cell item)
  its_cell = sym (ap (cell_of item.serial) there) ∙ was_open item (inl refl)

  answered_cell : (n : ℕ) (cell : Cell) → n ≡ item.serial → cell_at answered.cells n ≡ Some cell
      → IsSoundCell E.replica.own E.replica.members E.replica.entries E.published item.client n cell
  answered_cell n cell e w =
      let was = (s.clients item.client k there).cells item.serial (open_cell item) its_cell in
      let full : Cell = record { submitted = item; answer = Some answer } in
      let set : cell_at answered.cells n ≡ Some full = ap (cell_at answered.cells) e
      ∙ answered_there k item.serial answer (open_cell item) its_cell in
      let is : full ≡ cell = cc in
      subst (IsSoundCell E.replica.own E.replica.members E.replica.entries E.published item.client n) is (record {
        client = was.client;
        serial = was.serial ∙ sym e;
        floor = was.floor;
        given = λ g q.
            let same : answer ≡ g = cc in
            subst (λ (a : Given). (a.published ≤ E.published)
            × IsGoodReply E.replica.own E.replica.members (published_entries E) item a.reply) same
            (omega arith, good);
      })

  other_cell : (n : ℕ) (cell : Cell) → (n ≡ item.serial → ⊥) → cell_at answered.cells n ≡ Some cell
      → IsSoundCell E.replica.own E.replica.members E.replica.entries E.published item.client n cell
  other_cell n cell e w = (s.clients item.client k there).cells n cell
      (sym (answered_elsewhere k item.serial n answer (open_cell item) its_cell e) ∙ w)

  sound_answered : IsSoundClient E.replica.own E.replica.members E.replica.entries E.published item.client answered
  sound_answered = record {
    seen = (s.clients item.client k there).seen;
    above = subst (λ n. IsAbove item.client (suc n) E.replica.entries)
        (sym (length-answered k item.serial answer (open_cell item) its_cell)) (s.clients item.client k there).above;
    cells = λ n cell w. elim (cases_eq n item.serial) [ inl e ↦ answered_cell n cell e w | inr e ↦ other_cell n cell e w ];
  }

  -- its cell had no answer
  kept_there : (n : ℕ) (cell : Cell) → n ≡ item.serial → cell_at k.cells n ≡ Some cell
      → (later : Cell) × (cell_at answered.cells n ≡ Some later) × (later.submitted ≡ cell.submitted)
      × ((g : Given) → cell.answer ≡ Some g → later.answer ≡ Some g)
  kept_there n cell e w =
      let was : cell_at k.cells n ≡ Some (open_cell item) = ap (cell_at k.cells) e ∙ its_cell in
      let is : open_cell item ≡ cell = cc in (
        record { submitted = item; answer = Some answer },
        ap (cell_at answered.cells) e ∙ answered_there k item.serial answer (open_cell item) its_cell,
        ap (λ (l : Cell). l.submitted) is,
        λ g q. absurd (none-some g (ap (λ (l : Cell). l.answer) is ∙ q)),
      )

  moved : HasMoved k answered
  moved = record {
    seen = omega arith;
    cells = λ n cell w. elim
        (cases_eq n item.serial) [
          | inl e ↦ kept_there n cell e w
          | inr e ↦ (
            cell,
            answered_elsewhere k item.serial n answer
                (open_cell item) its_cell e
                ∙ w,
            refl,
            λ g q. q,
          )
        ];
  }

  -- the items that wait after it have other cells
  after_it : (x : Submitted) → IsAmong x (waiting_items due E.handled E.queue) → x.client ≡ item.client
      → cell_at answered.cells x.serial ≡ cell_at k.cells x.serial
  after_it x m e = answered_elsewhere k item.serial x.serial answer (open_cell item) its_cell
      (λ z. (let l : item.serial < x.serial = in_turn.0 x m e in omega arith))

  -- its reply is its answer, and the other items are still due
  still : (x : Handled) → IsAmong x (h ∷ due) → IsStillReplied after x
  still x (inr m) = inl m
  still x (inl e) = subst (λ (y : Handled). IsStillReplied after y) (sym e) (inr (
    answer,
    (
      record { submitted = item; answer = Some answer },
      ap (cell_of item.serial) (get-set_same E.clients item.client k answered there)
          ∙ answered_there k item.serial answer (open_cell item) its_cell,
      refl,
    ),
    refl,
  ))

  given_now : IsLater E after
  given_now = record {
    sound = sound_by_client E E.queue due item.client k answered s there sound_answered in_turn.1
        (λ x m. cell_moved E E.queue due item.client k answered there x.client x.serial (open_cell x) (was_open x (inr m))
        (λ e q. after_it x m e ∙ q))
        s.queued
        (λ g m. s.due g (subst (IsAmong g) (sym oldest) (inr m)));
    grown = grown_by_client E E.queue due item.client k answered there moved (λ x m. still x (subst (IsAmong x) oldest m));
  }

-- An answer that is set keeps an engine sound.
pub answer_given : (E : Engine) → IsSound E → IsLater E (give E).engine
answer_given E s = at_due E.due refl
  where
    at_client : (h : Handled) (due : List Handled) → E.due ≡ h ∷ due → (o : Option Client) → slice_get E.clients h.submitted.client ≡ o
        → IsLater E (give_oldest E (h ∷ due)).engine
    at_client h due e None f =
        let is : cell_under E h.submitted.client h.submitted.serial
        ≡ Some (open_cell h.submitted) = s.unanswered h.submitted
        (subst (λ (d : List Handled). IsAmong h.submitted (waiting_items d E.handled E.queue)) (sym e) (inl refl)) in
        absurd (none-some (open_cell h.submitted) (sym (ap (cell_of h.submitted.serial) f) ∙ is))
    at_client h due e (Some k) f = rw f (given_now E h due s e k f)

    at_due : (d : List Handled) → E.due ≡ d → IsLater E (give_oldest E d).engine
    at_due [] e = later_refl E s
    at_due (h ∷ due) e = at_client h due e (slice_get E.clients h.submitted.client) refl
