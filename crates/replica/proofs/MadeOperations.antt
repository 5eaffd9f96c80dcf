-- What is made of a command, once its expression was resolved and the place was looked at.
use Rattle.std.proofs.Common.{◌≡◌, ℕ, suc, true, false, cond, nat_le, length, List, Result, Ok, Err, ap, ◌∙◌}
use Rattle.ids.specs.declared.refusal.Refusal.{Refusal}
use Rattle.ids.specs.declared.refusal.Refusal.TheVariants.{HistoryFull}
use Rattle.semantics.specs.Ids.{id_at}
use Rattle.semantics.specs.Elements.{Place}
use Rattle.semantics.specs.Operations.{Operation, misplaced}
use Rattle.semantics.specs.LegalHistory.{has_id, greatest_of}
use Rattle.semantics.specs.Questions.{resolve}
use Rattle.semantics.specs.Context.{doc}
use Rattle.semantics.specs.DocumentAnswer.{lists_of}
use Rattle.semantics.specs.Making.{Command, make, operation_at, place_unless, then_place}

-- the operation that replica p makes after H at a place
abbrev pub made_at : List Operation → ℕ → Command → Place → Operation
made_at H p c place = record { id = id_at (suc (greatest_of (λ a. true) H)) p; deps = has_id H; place = place; mutation = c.mutation }

module _ (H : List Operation) (p : ℕ) (c : Command) where
  -- a full history makes nothing
  pub make-full : nat_le 1048576 (length H) ≡ true → make H p c ≡ Err HistoryFull
  make-full full = ap
      (λ b. cond b (Err HistoryFull)
      (operation_at H p c.mutation (then_place c.mutation (resolve (lists_of (doc H)) c.expression)))) full

  -- where the history has room, what the expression leads to decides
  pub make-resolved : (r : Result Place Refusal) → nat_le 1048576 (length H) ≡ false → resolve (lists_of (doc H)) c.expression ≡ r
      → make H p c ≡ operation_at H p c.mutation (then_place c.mutation r)
  make-resolved r room e =
      ap (λ b. cond b (Err HistoryFull)
      (operation_at H p c.mutation (then_place c.mutation (resolve (lists_of (doc H)) c.expression)))) room
      ∙ ap (λ x. operation_at H p c.mutation (then_place c.mutation x)) e

  -- and then the place
  pub make-placed : (place : Place) (r : Result Place Refusal) → nat_le 1048576 (length H) ≡ false
      → resolve (lists_of (doc H)) c.expression ≡ Ok place
      → place_unless (misplaced c.mutation place) place ≡ r → make H p c ≡ operation_at H p c.mutation r
  make-placed place r room e f = make-resolved (Ok place) room e ∙ ap (operation_at H p c.mutation) f
