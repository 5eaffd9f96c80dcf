-- All that clients submitted stays there when one of them submits a request.
use Rattle.std.proofs.Common.{◌≡◌, inl, inr, ℕ, suc, Bool, true, false, nat_le, [], ◌∷◌, ◌++◌, map, length, Option, Some, None, refl, sym}
use Rattle.std.proofs.Common.{ap, ◌∙◌, subst, append_assoc, slice_get, slice_set}
use Rattle.std.proofs.lemmas.Bool.{cases_eq}
use Rattle.std.proofs.lemmas.List.{append-nil, map-append}
use Rattle.semantics.specs.LegalAnswer.{Request, Submitted}
use Rattle.semantics.specs.Engine.{Engine, Client, Cell}
use Rattle.semantics.specs.WriteSteps.{next_submission, with_cell, submit, push}
use Rattle.semantics.specs.WorldHistory.{of_client, unanswered, cells_of, HasAllSubmitted}
use Rattle.ids.proofs.LongerLists.{get-append_cases}
use Rattle.semantics.proofs.SetElements.{get-set_same, get-set_other}
use Rattle.semantics.proofs.SoundEngines.{open_cell}
use Rattle.semantics.proofs.ItemsInTurn.{waiting-submitted}
use Rattle.semantics.proofs.KeptSubmissions.{IsComplete, of_client-append, of_client-own, of_client-other, cells_in}

module _ (E : Engine) (h : IsComplete E) (c : ℕ) (k : Client) (request : Request) (there : slice_get E.clients c ≡ Some k) where
  abbrev item : Submitted
  item = next_submission c k request

  abbrev after : Engine
  after = record E { queue = E.queue ++ item ∷ []; clients = slice_set E.clients c (with_cell k item) }

  items : (d : ℕ) → of_client d (unanswered after) ≡ of_client d (unanswered E) ++ of_client d (item ∷ [])
  items d = ap (of_client d) (waiting-submitted E.due E.handled E.queue item) ∙ of_client-append d (unanswered E) (item ∷ [])

  own_items : of_client c (unanswered after) ≡ of_client c (unanswered E) ++ item ∷ []
  own_items = items c ∙ ap (λ xs. of_client c (unanswered E) ++ xs) (of_client-own c item [] refl)

  other_items : (d : ℕ) → (d ≡ c → ⊥) → of_client d (unanswered after) ≡ of_client d (unanswered E)
  other_items d n = items d
      ∙ ap (λ xs. of_client d (unanswered E) ++ xs) (of_client-other d item [] (λ e. n (sym e)))
      ∙ append-nil (of_client d (unanswered E))

  its_cells : cells_of E c ≡ k.cells
  its_cells = ap cells_in there

  more_cells : cells_of after c ≡ k.cells ++ open_cell item ∷ []
  more_cells = ap cells_in (get-set_same E.clients c k (with_cell k item) there)

  submitter_complete : HasAllSubmitted after c
  submitter_complete = record {
    serials = λ n cell w. elim (get-append_cases k.cells n (open_cell item) cell (sym (ap (λ cs. slice_get cs n) more_cells) ∙ w)) [
      | inl o ↦ (h c).serials n cell (ap (λ cs. slice_get cs n) its_cells ∙ o)
      | inr e ↦ (ap (λ (x : Cell). x.submitted.client) e.1, ap (λ (x : Cell). x.submitted.serial) e.1 ∙ ap suc (sym e.0))
    ];
    answered = (h c).answered;
    given = (h c).given;
    cells = more_cells
        ∙ ap (λ cs. cs ++ open_cell item ∷ []) (sym its_cells ∙ (h c).cells)
        ∙ append_assoc (h c).answered (map open_cell (of_client c (unanswered E))) (open_cell item ∷ [])
        ∙ ap (λ cs. (h c).answered ++ cs)
        (sym (ap (map open_cell) own_items ∙ map-append open_cell (of_client c (unanswered E)) (item ∷ [])));
  }

  other_complete : (d : ℕ) → (d ≡ c → ⊥) → HasAllSubmitted after d
  other_complete d n =
      let same : cells_of after d ≡ cells_of E d = ap cells_in (get-set_other E.clients c d (with_cell k item) n) in
      record {
        serials = λ i cell w. (h d).serials i cell (sym (ap (λ cs. slice_get cs i) same) ∙ w);
        answered = (h d).answered;
        given = (h d).given;
        cells = same ∙ (h d).cells ∙ ap (λ xs. (h d).answered ++ map open_cell xs) (sym (other_items d n));
      }

  submitted : IsComplete after
  submitted d = elim (cases_eq d c) [
    | inl e ↦ subst (HasAllSubmitted after) (sym e) submitter_complete
    | inr n ↦ other_complete d n
  ]

-- A client submits: its item is in the queue, and has the next cell.
pub complete_pushed : (E : Engine) (c : ℕ) (request : Request) → IsComplete E → IsComplete (push E c request).engine
complete_pushed E c request h = at_client (slice_get E.clients c) refl
  where
    at_room : (k : Client) → slice_get E.clients c ≡ Some k → (a b : Bool) → nat_le E.serials (length k.cells) ≡ a
        → nat_le E.capacity (length E.queue) ≡ b → IsComplete (submit E c k (next_submission c k request)).engine
    at_room k there true b e f = rw e h
    at_room k there false true e f = rw (e, f) h
    at_room k there false false e f = rw (e, f) (submitted E h c k request there)

    at_client : (o : Option Client) → slice_get E.clients c ≡ o → IsComplete (push E c request).engine
    at_client None e = rw e h
    at_client (Some k) e = rw e (at_room k e (nat_le E.serials (length k.cells)) (nat_le E.capacity (length E.queue)) refl refl)
