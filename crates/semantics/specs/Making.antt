-- The operation that a replica makes of a command.
use Rattle.std.specs.Prelude.{ℕ, suc, Bool, true, cond, nat_le, List, length, Option, Some, None, Result, Ok, Err}
use Rattle.semantics.specs.Ids.{id_at}
use Rattle.semantics.specs.Elements.{Place}
use Rattle.semantics.specs.Operations.{Operation, Mutation, Misplaced, OutsideList, OnHead, misplaced}
use Rattle.ids.specs.declared.refusal.Refusal.{Refusal}
use Rattle.ids.specs.declared.refusal.Refusal.TheVariants.{AtHead, NotInList, HistoryFull}
use Rattle.semantics.specs.Limits.{most_entries}
use Rattle.semantics.specs.LegalHistory.{has_id, greatest_of}
use Rattle.semantics.specs.Context.{doc}
use Rattle.semantics.specs.Questions.{Step, resolve}
use Rattle.semantics.specs.DocumentAnswer.{lists_of}

-- what is to be done, and an expression for where
pub record Command : Type 0 where
  pub expression : List Step
  pub mutation : Mutation

-- the place, unless the mutation of a command can't stand there
abbrev pub place_unless : Option Misplaced → Place → Result Place Refusal
place_unless None p = Ok p
place_unless (Some OutsideList) p = Err NotInList
place_unless (Some OnHead) p = Err AtHead

-- the place, unless the expression or the mutation there is refused
abbrev pub then_place : Mutation → Result Place Refusal → Result Place Refusal
then_place m (Err r) = Err r
then_place m (Ok p) = place_unless (misplaced m p) p

-- p's operation at a place: its counter is the next, and it depends on all that was applied
abbrev pub operation_at : List Operation → ℕ → Mutation → Result Place Refusal → Result Operation Refusal
operation_at H p m (Err r) = Err r
operation_at H p m (Ok place) = Ok (record {
  id = id_at (suc (greatest_of (λ a. true) H)) p;
  deps = has_id H;
  place = place;
  mutation = m;
})

-- a history holds 1,048,576 operations at most
abbrev pub is_full : {X : Type 0} → List X → Bool
is_full H = nat_le most_entries (length H)

-- what p makes of the command after H; a full history is refused first
abbrev pub make : List Operation → ℕ → Command → Result Operation Refusal
make H p c = cond (is_full H) (Err HistoryFull)
    (operation_at H p c.mutation (then_place c.mutation (resolve (lists_of (doc H)) c.expression)))
