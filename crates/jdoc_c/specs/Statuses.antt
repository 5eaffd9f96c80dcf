-- The numbers that calls return.
use Rattle.std.specs.Prelude.{ℕ, Result, Ok, Err}
use Rattle.jdoc_c.specs.declared.status.Status.{Status}
use Rattle.jdoc_c.specs.declared.status.Status.TheVariants.{NoMemory, TooShort, Closed, WasOpen, BadNumber, Unfit, WrongKind}

-- as in `jdoc.h`
abbrev pub number_of : Status → ℕ
number_of NoMemory = 1
number_of TooShort = 2
number_of Closed = 3
number_of WasOpen = 4
number_of BadNumber = 5
number_of Unfit = 6
number_of WrongKind = 7

-- how a call ended: 0, or why it failed
abbrev pub code_of : {A : Type 0} → Result A Status → ℕ
code_of (Ok _) = 0
code_of (Err why) = number_of why
