-- What is reported of a bad script.
use Rattle.std.specs.Prelude.{◌≡◌, ◌⊎◌, ◌++◌, ℕ, List, Result, Err, codes, decimal}
use Rattle.ids.specs.declared.refusal.Refusal.{Refusal}
use Rattle.ids.specs.declared.refusal.Refusal.TheVariants.{NoMemory}
use Rattle.ids.specs.Refusals.{number_of}
use Rattle.scripts.specs.declared.error.ScriptError.{ScriptError}
use Rattle.scripts.specs.declared.error.ScriptError.TheVariants as error
use Rattle.world.specs.wire.Lines.{Bad}

-- a failed allocation is the fault of no line
abbrev pub error_of : ℕ → Refusal → ScriptError
error_of line NoMemory = error.NoMemory
error_of line why = error.BadLine line why

-- the line's number and the number of the refusal, such as `line 3: E22`
abbrev pub error_text : ScriptError → List ℕ
error_text (error.BadLine line why) = codes "line " ++ (decimal line ++ (codes ": E" ++ decimal (number_of why)))
error_text error.NoMemory = codes "no memory"

-- the error is that of the first bad line, or a failed allocation
abbrev pub IsErrorOf : {T : Type 0} → Result T Bad → ScriptError → Type 0
IsErrorOf r e = (e ≡ error.NoMemory) ⊎ ((bad : Bad) × (r ≡ Err bad) × (e ≡ error_of bad.0 bad.1))
