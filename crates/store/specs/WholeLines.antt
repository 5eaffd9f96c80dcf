-- The whole lines of a journal that may have been cut off.
use Rattle.std.specs.Prelude.{◌≡◌, ◌≤◌, ℕ, List, [], ◌∷◌, length, drop, take, Option, None, Some, Result, Ok}
use Rattle.std.specs.Option.{option_or}
use Rattle.semantics.specs.Journals.{Recorded, Commanded}
use Rattle.ids.specs.declared.refusal.Refusal.{Refusal}
use Rattle.records.specs.wire.Lines.{cut}
use Rattle.records.specs.Lines.{record_form}

-- the first n bytes are the lines of the text, and what is after them is no line
pub record AreWhole (n : ℕ) (text : List ℕ) : Type 0 where
  pub within : n ≤ length text
  pub lines : cut (take n text) ≡ record { lines = (cut text).lines; tail = [] }
  pub tail : drop n text ≡ (cut text).tail

-- the replica of what a line records, if that is an own command
abbrev pub own_on : Result Recorded Refusal → Option ℕ
own_on (Ok (Commanded a c)) = Some a.replica
own_on _ = None

-- the replica of the first own command on these lines
abbrev pub first_own : List (List ℕ) → Option ℕ
first_own [] = None
first_own (l ∷ ls) = option_or (own_on (record_form l)) (first_own ls)
