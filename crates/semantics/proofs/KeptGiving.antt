-- All that clients submitted stays there when the writer sets an answer.
use Rattle.std.proofs.Common.{◌≡◌, ◌⊎◌, inl, inr, ℕ, suc, List, [], ◌∷◌, ◌++◌, map, length, Option, Some, None, refl, sym, ap, ◌∙◌, subst}
use Rattle.std.proofs.Common.{append_assoc, slice_get, slice_set}
use Rattle.std.proofs.lemmas.Bool.{cases_eq}
use Rattle.semantics.specs.LegalHistory.{IsAmong}
use Rattle.semantics.specs.LegalAnswer.{Submitted}
use Rattle.semantics.specs.Engine.{Engine, Client, Cell, Given, Handled}
use Rattle.semantics.specs.WriteSteps.{with_answer, give_oldest, give}
use Rattle.semantics.specs.WorldHistory.{of_client, unanswered, cells_of, HasAllSubmitted}
use Rattle.semantics.proofs.SetElements.{get-set_same, get-set_other, get-set_cases}
use Rattle.semantics.proofs.ClientCells.{cell_at-suc, answered_cells}
use Rattle.semantics.proofs.SoundEngines.{waiting_items, open_cell}
use Rattle.semantics.proofs.ItemsInTurn.{among_last}
use Rattle.semantics.proofs.KeptSubmissions.{IsComplete, of_client-own, of_client-other, cells_in}

set-there : {X : Type 0} (xs : List X) (y z : X) (ys : List X) → slice_set (xs ++ y ∷ ys) (length xs) z ≡ xs ++ z ∷ ys
set-there [] y z ys = refl
set-there (x ∷ xs) y z ys = ap (λ zs. x ∷ zs) (set-there xs y z ys)

get-there : {X : Type 0} (xs : List X) (y : X) (ys : List X) → slice_get (xs ++ y ∷ ys) (length xs) ≡ Some y
get-there [] y ys = refl
get-there (x ∷ xs) y ys = get-there xs y ys

module _ (E : Engine) (h : IsComplete E) (first : Handled) (due : List Handled) (oldest : E.due ≡ first ∷ due) where
  abbrev owner : ℕ
  owner = first.submitted.client

  abbrev answer : Given
  answer = record { reply = first.reply; published = E.published }

  -- the items that aren't answered after it
  abbrev rest : List Submitted
  rest = waiting_items due E.handled E.queue

  was_first : unanswered E ≡ first.submitted ∷ rest
  was_first = ap (λ (d : List Handled). waiting_items d E.handled E.queue) oldest

  was_next : cells_of E owner ≡ (h owner).answered ++ open_cell first.submitted ∷ map open_cell (of_client owner rest)
  was_next = (h owner).cells
      ∙ ap (λ xs. (h owner).answered ++ map open_cell xs) (ap (of_client owner) was_first ∙ of_client-own owner first.submitted rest refl)

  was_there : slice_get (cells_of E owner) (length (h owner).answered) ≡ Some (open_cell first.submitted)
  was_there = ap (λ cs. slice_get cs (length (h owner).answered)) was_next
      ∙ get-there (h owner).answered (open_cell first.submitted) (map open_cell (of_client owner rest))

  its_serial : first.submitted.serial ≡ suc (length (h owner).answered)
  its_serial = ((h owner).serials (length (h owner).answered) (open_cell first.submitted) was_there).1

  abbrev new_cell : Cell
  new_cell = record { submitted = first.submitted; answer = Some answer }

  module _ (k : Client) (there : slice_get E.clients owner ≡ Some k) where
    abbrev answered : Client
    answered = with_answer k first.submitted.serial answer

    abbrev after : Engine
    after = record E { due = due; clients = slice_set E.clients owner answered }

    its_cells : cells_of E owner ≡ k.cells
    its_cells = ap cells_in there

    its_cell : slice_get k.cells (length (h owner).answered) ≡ Some (open_cell first.submitted)
    its_cell = ap (λ cs. slice_get cs (length (h owner).answered)) (sym its_cells) ∙ was_there

    set_cells : answered.cells ≡ slice_set k.cells (length (h owner).answered) new_cell
    set_cells = ap (λ n. (with_answer k n answer).cells) its_serial
        ∙ answered_cells k (length (h owner).answered) answer (open_cell first.submitted)
        (cell_at-suc k.cells (length (h owner).answered) ∙ its_cell)

    now_cells : cells_of after owner ≡ slice_set k.cells (length (h owner).answered) new_cell
    now_cells = ap cells_in (get-set_same E.clients owner k answered there) ∙ set_cells

    -- a cell is the new one, or it was there
    at_set : (n : ℕ) (cell : Cell) → slice_get (slice_set k.cells (length (h owner).answered) new_cell) n ≡ Some cell
        → ((n ≡ length (h owner).answered) × (cell ≡ new_cell)) ⊎ (slice_get k.cells n ≡ Some cell)
    at_set n cell = get-set_cases k.cells (length (h owner).answered) n (open_cell first.submitted) new_cell cell its_cell

    all_given : (cell : Cell) → IsAmong cell ((h owner).answered ++ new_cell ∷ []) → (g : Given) × (cell.answer ≡ Some g)
    all_given cell m = elim (among_last (h owner).answered new_cell cell m) [
      | inl o ↦ (h owner).given cell o
      | inr e ↦ (answer, ap (λ (x : Cell). x.answer) e)
    ]

    owner_complete : HasAllSubmitted after owner
    owner_complete = record {
      serials = λ n cell w. elim (at_set n cell (sym (ap (λ cs. slice_get cs n) now_cells) ∙ w)) [
        | inl e ↦ (ap (λ (x : Cell). x.submitted.client) e.1, ap (λ (x : Cell). x.submitted.serial) e.1 ∙ its_serial ∙ ap suc (sym e.0))
        | inr o ↦ (h owner).serials n cell (ap (λ cs. slice_get cs n) its_cells ∙ o)
      ];
      answered = (h owner).answered ++ new_cell ∷ [];
      given = all_given;
      cells = now_cells
          ∙ ap (λ cs. slice_set cs (length (h owner).answered) new_cell) (sym its_cells ∙ was_next)
          ∙ set-there (h owner).answered (open_cell first.submitted) new_cell (map open_cell (of_client owner rest))
          ∙ sym (append_assoc (h owner).answered (new_cell ∷ []) (map open_cell (of_client owner rest)));
    }

    other_complete : (d : ℕ) → (d ≡ owner → ⊥) → HasAllSubmitted after d
    other_complete d n =
        let same : cells_of after d ≡ cells_of E d = ap cells_in (get-set_other E.clients owner d answered n) in
        record {
          serials = λ i cell w. (h d).serials i cell (sym (ap (λ cs. slice_get cs i) same) ∙ w);
          answered = (h d).answered;
          given = (h d).given;
          cells = same ∙ (h d).cells
              ∙ ap (λ xs. (h d).answered ++ map open_cell xs)
              (ap (of_client d) was_first ∙ of_client-other d first.submitted rest (λ e. n (sym e)));
        }

    given_now : IsComplete after
    given_now d = elim (cases_eq d owner) [
      | inl e ↦ subst (HasAllSubmitted after) (sym e) owner_complete
      | inr n ↦ other_complete d n
    ]

  -- its client is there
  no_client : slice_get E.clients owner ≡ None → ⊥
  no_client e = none_there (h owner).answered (sym was_next ∙ ap cells_in e)
    where
      none_there : (cs : List Cell) → cs ++ open_cell first.submitted ∷ map open_cell (of_client owner rest) ≡ [] → ⊥
      none_there [] q = cc
      none_there (x ∷ cs) q = cc

-- The writer sets the answer to the oldest due item: its cell is the first that has none.
pub complete_given : (E : Engine) → IsComplete E → IsComplete (give E).engine
complete_given E h = at_due E.due refl
  where
    at_client : (first : Handled) (due : List Handled) → E.due ≡ first ∷ due → (o : Option Client)
        → slice_get E.clients first.submitted.client ≡ o → IsComplete (give_oldest E (first ∷ due)).engine
    at_client first due e None f = absurd (no_client E h first due e f)
    at_client first due e (Some k) f = rw f (given_now E h first due e k f)

    at_due : (d : List Handled) → E.due ≡ d → IsComplete (give_oldest E d).engine
    at_due [] e = h
    at_due (first ∷ due) e = at_client first due e (slice_get E.clients first.submitted.client) refl
