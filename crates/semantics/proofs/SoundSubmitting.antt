-- An engine stays sound when a client submits a request.
use Rattle.std.proofs.Common.{◌≡◌, inl, inr, ℕ, suc, ◌<◌, ◌≤◌, Bool, true, false, nat_le, [], ◌∷◌, ◌++◌, length, Option, Some, None, refl}
use Rattle.std.proofs.Common.{sym, ap, ◌∙◌, subst, arith, slice_get}
use Rattle.std.proofs.lemmas.List.{length-append}
use Rattle.std.proofs.lemmas.Option.{none-some}
use Rattle.semantics.specs.LegalHistory.{IsAmong}
use Rattle.semantics.specs.Entries.{IsAbove}
use Rattle.semantics.specs.LegalAnswer.{Request, Submitted}
use Rattle.semantics.specs.Engine.{Engine, Client, Cell}
use Rattle.semantics.specs.WriteSteps.{next_submission, with_cell, submit, push}
use Rattle.semantics.specs.ReadSteps.{cell_under}
use Rattle.semantics.proofs.SetElements.{get-set_same}
use Rattle.semantics.proofs.ClientCells.{cell_within, cell_kept, newest_cell, newest_cases}
use Rattle.semantics.proofs.Beginnings.{above_more}
use Rattle.semantics.proofs.MovedTokens.{with_client, cell_of, grown_by_client}
use Rattle.semantics.proofs.SoundEngines.{waiting_items, IsInTurn, open_cell, IsSoundCell, IsSoundClient, IsSound, IsLater}
use Rattle.semantics.proofs.ItemsInTurn.{among_last, turns_last, waiting-submitted}
use Rattle.semantics.proofs.SoundClients.{cell_moved, sound_by_client}
use Rattle.semantics.proofs.SoundSeeing.{later_refl}

module _ (E : Engine) (c : ℕ) (k : Client) (request : Request) (s : IsSound E) (h : slice_get E.clients c ≡ Some k) where
  -- what is submitted, and the client and the engine then
  abbrev item : Submitted
  item = next_submission c k request

  abbrev submitter : Client
  submitter = with_cell k item

  abbrev after : Engine
  after = with_client E (E.queue ++ item ∷ []) E.due c submitter

  new_cell : (n : ℕ) (cell : Cell) → n ≡ suc (length k.cells) → cell ≡ open_cell item
      → IsSoundCell E.replica.own E.replica.members E.replica.entries E.published c n cell
  new_cell n cell e f = subst (λ i. IsSoundCell E.replica.own E.replica.members E.replica.entries E.published c i cell) (sym e)
      (subst (λ q. IsSoundCell E.replica.own E.replica.members E.replica.entries E.published c (suc (length k.cells)) q) (sym f) (record {
        client = refl;
        serial = refl;
        floor = (s.clients c k h).seen;
        given = λ g w. absurd (none-some g w);
      }))

  sound_submitter : IsSoundClient E.replica.own E.replica.members E.replica.entries E.published c submitter
  sound_submitter = record {
    seen = (s.clients c k h).seen;
    above = above_more c (suc (length k.cells)) (suc (length submitter.cells)) E.replica.entries
        (omega (arith, length-append k.cells (open_cell item ∷ []))) (s.clients c k h).above;
    cells = λ n cell w. elim
        (newest_cases k.cells (open_cell item) n cell w) [ inl o ↦ (s.clients c k h).cells n cell o | inr e ↦ new_cell n cell e.0 e.1 ];
  }

  -- the client's serials so far are below the new one
  below_new : (y : Submitted) → IsAmong y (waiting_items E.due E.handled E.queue) → y.client ≡ c → y.serial < suc (length k.cells)
  below_new y m e =
      let was : slice_get E.clients y.client ≡ Some k = ap (slice_get E.clients) e ∙ h in
      let l : y.serial ≤ length k.cells = cell_within k.cells y.serial (open_cell y) (sym (ap (cell_of y.serial) was) ∙ s.unanswered y m) in
      omega arith

  new_open : (x : Submitted) → x ≡ item → cell_under after x.client x.serial ≡ Some (open_cell x)
  new_open x e = subst (λ (y : Submitted). cell_under after y.client y.serial ≡ Some (open_cell y)) (sym e)
      (ap (cell_of (suc (length k.cells))) (get-set_same E.clients c k submitter h) ∙ newest_cell k.cells (open_cell item))

  all_open : (x : Submitted) → IsAmong x (waiting_items E.due E.handled (E.queue ++ item ∷ []))
      → cell_under after x.client x.serial ≡ Some (open_cell x)
  all_open x m = elim
      (among_last (waiting_items E.due E.handled E.queue) item x (subst (IsAmong x) (waiting-submitted E.due E.handled E.queue item) m)) [
        | inl o ↦ cell_moved E (E.queue ++ item ∷ []) E.due c k submitter h x.client x.serial (open_cell x) (s.unanswered x o)
            (λ e q. cell_kept k.cells (open_cell item ∷ []) x.serial (open_cell x) q)
        | inr e ↦ new_open x e
      ]

  all_above : (x : Submitted) → IsAmong x (E.queue ++ item ∷ []) → IsAbove x.client x.serial E.replica.entries
  all_above x m = elim (among_last E.queue item x m) [
    | inl o ↦ s.queued x o
    | inr e ↦ subst (λ (y : Submitted). IsAbove y.client y.serial E.replica.entries) (sym e) (s.clients c k h).above
  ]

  all_in_turn : IsInTurn (waiting_items E.due E.handled (E.queue ++ item ∷ []))
  all_in_turn = subst IsInTurn (sym (waiting-submitted E.due E.handled E.queue item))
      (turns_last (waiting_items E.due E.handled E.queue) item s.turns below_new)

  submitted : IsLater E after
  submitted = record {
    sound = sound_by_client E (E.queue ++ item ∷ []) E.due c k submitter s h sound_submitter all_in_turn all_open all_above s.due;
    grown = grown_by_client E (E.queue ++ item ∷ []) E.due c k submitter h
        (record { seen = omega arith; cells = λ n cell q. (cell, cell_kept k.cells (open_cell item ∷ []) n cell q, refl, λ g w. w) })
        (λ x m. inl m);
  }

-- A client's request keeps an engine sound.
pub pushed : (E : Engine) (c : ℕ) (request : Request) → IsSound E → IsLater E (push E c request).engine
pushed E c request s = at_client (slice_get E.clients c) refl
  where
    at_room : (k : Client) → slice_get E.clients c ≡ Some k → (a b : Bool) → nat_le E.serials (length k.cells) ≡ a
        → nat_le E.capacity (length E.queue) ≡ b → IsLater E (submit E c k (next_submission c k request)).engine
    at_room k h true b e f = rw e (later_refl E s)
    at_room k h false true e f = rw (e, f) (later_refl E s)
    at_room k h false false e f = rw (e, f) (submitted E c k request s h)

    at_client : (o : Option Client) → slice_get E.clients c ≡ o → IsLater E (push E c request).engine
    at_client None e = rw e (later_refl E s)
    at_client (Some k) e = rw e (at_room k e (nat_le E.serials (length k.cells)) (nat_le E.capacity (length E.queue)) refl refl)
