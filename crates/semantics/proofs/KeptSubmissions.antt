-- All that clients submitted stays there at each step of an engine.
use Rattle.std.proofs.Common.{◌≡◌, ℕ, Bool, true, false, ◌||◌, ◌==◌, not, cond, nat_le, List, [], ◌∷◌, ◌++◌, map, length, Option, Some}
use Rattle.std.proofs.Common.{None, refl, sym, ap, ◌∙◌, slice_get}
use Rattle.std.proofs.lemmas.Bool.{eq-eqb, ne_eqb, or_parts}
use Rattle.semantics.specs.DocumentAnswer.{is_any}
use Rattle.semantics.specs.LegalAnswer.{Submitted}
use Rattle.semantics.specs.Engine.{Engine, Client, Cell, Handled}
use Rattle.semantics.specs.WriteSteps.{take_oldest, take_submission, publish}
use Rattle.semantics.specs.WorldHistory.{of_client, unanswered, cells_of, HasAllSubmitted}
use Rattle.semantics.proofs.SoundEngines.{waiting_items, open_cell}
use Rattle.semantics.proofs.ItemsInTurn.{waiting-taken}
use Rattle.semantics.proofs.SoundPublishing.{none_due}

-- all that each client submitted is there
abbrev pub IsComplete : Engine → Type 0
IsComplete E = (c : ℕ) → HasAllSubmitted E c

-- ---- the items of a client

pub of_client-append : (c : ℕ) (xs ys : List Submitted) → of_client c (xs ++ ys) ≡ of_client c xs ++ of_client c ys
of_client-append c [] ys = refl
of_client-append c (x ∷ xs) ys = at_test (x.client == c) (of_client-append c xs ys)
  where
    at_test : (b : Bool) → of_client c (xs ++ ys) ≡ of_client c xs ++ of_client c ys
        → cond b (x ∷ of_client c (xs ++ ys)) (of_client c (xs ++ ys)) ≡ cond b (x ∷ of_client c xs) (of_client c xs) ++ of_client c ys
    at_test true e = ap (λ (zs : List Submitted). x ∷ zs) e
    at_test false e = e

pub of_client-own : (c : ℕ) (x : Submitted) (xs : List Submitted) → x.client ≡ c → of_client c (x ∷ xs) ≡ x ∷ of_client c xs
of_client-own c x xs e = ap (λ b. cond b (x ∷ of_client c xs) (of_client c xs)) (eq-eqb x.client c e)

pub of_client-other : (c : ℕ) (x : Submitted) (xs : List Submitted) → (x.client ≡ c → ⊥) → of_client c (x ∷ xs) ≡ of_client c xs
of_client-other c x xs n = ap (λ b. cond b (x ∷ of_client c xs) (of_client c xs)) (ne_eqb x.client c n)

-- ---- the cells of a client

abbrev pub cells_in : Option Client → List Cell
cells_in None = []
cells_in (Some k) = k.cells

-- ---- steps that leave the cells and the items

pub complete_still : (E F : Engine) → ((c : ℕ) → cells_of F c ≡ cells_of E c) → unanswered F ≡ unanswered E → IsComplete E → IsComplete F
complete_still E F same items h c = record {
  serials = λ n cell w. (h c).serials n cell (sym (ap (λ cs. slice_get cs n) (same c)) ∙ w);
  answered = (h c).answered;
  given = (h c).given;
  cells = same c ∙ (h c).cells ∙ ap (λ xs. (h c).answered ++ map open_cell (of_client c xs)) (sym items);
}

-- The writer takes an item: it was in the queue, and is handled.
pub complete_taken : (E : Engine) → IsComplete E → IsComplete (take_submission E).engine
complete_taken E h = at_queue E.queue refl
  where
    at_test : (x : Submitted) (queue : List Submitted) → E.queue ≡ x ∷ queue → (b : Bool)
        → (is_any E.due || nat_le E.batch (length E.handled)) ≡ b → IsComplete (take_oldest E (x ∷ queue)).engine
    at_test x queue e true f = rw f h
    at_test x queue e false f =
        rw f (complete_still E _ (λ c. refl) (waiting-taken E.due E.handled queue _ ∙ ap (waiting_items E.due E.handled) (sym e)) h)

    at_queue : (q : List Submitted) → E.queue ≡ q → IsComplete (take_oldest E q).engine
    at_queue [] e = h
    at_queue (x ∷ queue) e = at_test x queue e (is_any E.due || nat_le E.batch (length E.handled)) refl

-- The writer publishes: what was handled is due.
pub complete_published : (E : Engine) → IsComplete E → IsComplete (publish E).engine
complete_published E h = at_test (is_any E.due || not (is_any E.handled)) refl
  where
    items : E.due ≡ [] → waiting_items E.handled [] E.queue ≡ waiting_items E.due E.handled E.queue
    items e = ap (λ (due : List Handled). waiting_items due E.handled E.queue) (sym e)

    at_test : (b : Bool) → (is_any E.due || not (is_any E.handled)) ≡ b → IsComplete (publish E).engine
    at_test true e = rw e h
    at_test false e =
        rw e (complete_still E _ (λ c. refl) (items (none_due E.due (or_parts (is_any E.due) (not (is_any E.handled)) e).0)) h)
