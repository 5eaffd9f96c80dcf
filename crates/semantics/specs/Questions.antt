-- Expressions, questions and answers.
use Rattle.std.specs.Prelude.{ℕ, zero, suc, Bool, true, false, cond, nat_le, List, [], ◌∷◌, Option, Some, None, Result, Ok, Err, slice_get}
use Rattle.semantics.specs.Ids.{OpId}
use Rattle.ids.specs.declared.refusal.Refusal.{Refusal}
use Rattle.ids.specs.declared.refusal.Refusal.TheVariants.{AtHead, PastEnd, TooDeep}
use Rattle.semantics.specs.Limits.{most_keys}
use Rattle.semantics.specs.Vectors.{Vector}
use Rattle.semantics.specs.Elements.{Element, Doc, Field, Item, Place, At, HeadOf, Scalar, Tag, Name, depth}
use Rattle.semantics.specs.Context.{has_item}

-- one step of an expression: to a field, to a list's head or the item with this index among those that it shows, or to the item with
-- this id
pub data Step : Type 0 where
  Get : Name → Step
  Idx : ℕ → Step
  ById : OpId → Step

-- the items of each list: those that it shows, and all that it ever had
pub record Lists : Type 0 where
  pub shown : Element → List OpId
  pub all : Element → List OpId

-- the i-th item, or past the end
abbrev pub item_at : Element → Option OpId → Result Place Refusal
item_at e None = Err PastEnd
item_at e (Some a) = Ok (At (Item e a))

-- one step from an element whose path has room for one more key
abbrev pub enter : Lists → Element → Step → Result Place Refusal
enter lists e (Get n) = Ok (At (Field e n))
enter lists e (Idx zero) = Ok (HeadOf e)
enter lists e (Idx (suc i)) = item_at e (slice_get (lists.shown e) i)
enter lists e (ById a) = cond (has_item a (lists.all e)) (Ok (At (Item e a))) (Err PastEnd)

-- one step: none from a head, and no path of more than 32 keys
abbrev pub step_from : Lists → Place → Step → Result Place Refusal
step_from lists (HeadOf l) s = Err AtHead
step_from lists (At e) s = cond (nat_le most_keys (depth e)) (Err TooDeep) (enter lists e s)

-- the place that an expression leads to: its steps from the left, and the first that is refused decides
abbrev pub walk_from : Lists → List Step → Result Place Refusal → Result Place Refusal
walk_from lists steps (Err r) = Err r
walk_from lists [] (Ok p) = Ok p
walk_from lists (s ∷ steps) (Ok p) = walk_from lists steps (step_from lists p s)

-- the place of an expression, from the root
abbrev pub resolve : Lists → List Step → Result Place Refusal
resolve lists steps = walk_from lists steps (Ok (At Doc))

-- the step leads to the same place whichever items the lists show: it counts none of them
abbrev pub counts_none : Step → Bool
counts_none (Get n) = true
counts_none (Idx zero) = true
counts_none (Idx (suc i)) = false
counts_none (ById a) = true

-- what is asked of a document
pub data Question : Type 0 where
  Values : List Step → Question
  Keys : List Step → Question
  Items : List Step → Question
  Conflicts : List Step → Question
  AppliedVector : Question

-- what a document answers
pub data Answer : Type 0 where
  ValuesAre : List (OpId × Scalar) → Answer
  KeysAre : List Name → Answer
  ItemsAre : List OpId → Answer
  ConflictsAre : List (OpId × Tag) → Answer
  VectorIs : Vector → Answer
  Refused : Refusal → Answer

-- the answer at the element that an expression leads to; a head is refused
abbrev pub answer_at : (Element → Answer) → Result Place Refusal → Answer
answer_at f (Err r) = Refused r
answer_at f (Ok (HeadOf l)) = Refused AtHead
answer_at f (Ok (At e)) = f e
