-- What is reported of a fault, and the status with which it ends a run.
use Rattle.std.specs.Prelude.{◌++◌, List, ℕ, codes, decimal}
use Rattle.ids.specs.Refusals.{number_of}
use Rattle.scripts.specs.Errors.{error_text}
use Rattle.serving.specs.records.declared.replaying.Unfit.TheVariants as unfit
use Rattle.scripts.specs.declared.error.ScriptError.TheVariants as script
use Rattle.cli.specs.declared.fault.Fault.{Fault}
use Rattle.cli.specs.declared.fault.Fault.TheVariants.{Script, CannotRead, BadWord, OutOfRange, CannotOpen, InUse, OtherNumber}
use Rattle.cli.specs.declared.fault.Fault.TheVariants.{Damaged, Lost, Unsaved, NotWritten, NoMemory}
use Rattle.cli.specs.declared.fault.Status.{Status}
use Rattle.cli.specs.declared.fault.Status.TheVariants as status

-- the status of a run that ends with this fault
abbrev pub status_of : Fault → Status
status_of (Script (script.BadLine line refusal)) = status.BadInput
status_of (Script script.NoMemory) = status.NoMemory
status_of (CannotRead name) = status.BadInput
status_of BadWord = status.BadInput
status_of OutOfRange = status.BadInput
status_of (CannotOpen name) = status.BadInput
status_of (InUse name) = status.BadInput
status_of (OtherNumber name number) = status.BadInput
status_of (Damaged name line why) = status.BadInput
status_of (Lost name) = status.NotWritten
status_of (Unsaved name count) = status.NotWritten
status_of NotWritten = status.NotWritten
status_of NoMemory = status.NoMemory

-- what is reported of a line of a file
abbrev pub at_line : (name : List ℕ) → (line : ℕ) → List ℕ → List ℕ
at_line name line why = codes "jdoc: line " ++ (decimal line ++ (codes " of " ++ (name ++ why)))

-- what is reported of a fault, without the line feed
abbrev pub fault_text : Fault → List ℕ
fault_text (Script error) = codes "jdoc: " ++ error_text error
fault_text (CannotRead name) = codes "jdoc: cannot read " ++ name.now
fault_text BadWord = codes "jdoc: a word is no text"
fault_text OutOfRange = codes "jdoc: a number is out of range"
fault_text (CannotOpen name) = codes "jdoc: cannot open " ++ name.now
fault_text (InUse name) = codes "jdoc: another program has " ++ name.now
fault_text (OtherNumber name number) = codes "jdoc: number " ++ (decimal number ++ (codes " has " ++ name.now))
fault_text (Damaged name line (unfit.Refused why)) = at_line name.now line (codes " doesn't fit: E" ++ decimal (number_of why))
fault_text (Damaged name line (unfit.OtherId id)) = at_line name.now line
    (codes " doesn't fit: its command makes " ++ (decimal id.counter ++ (codes "@" ++ decimal id.replica)))
fault_text (Damaged name line unfit.NotApplied) = at_line name.now line (codes " doesn't fit: it is known, or others are missing")
fault_text (Damaged name line unfit.NotAlone) = at_line name.now line (codes " doesn't fit: another program writes")
fault_text (Lost name) = codes "jdoc: nobody knows what " ++ (name.now ++ codes " has: start again")
fault_text (Unsaved name count) = codes "jdoc: cannot write " ++ (name.now ++ (codes ": operations lost: " ++ decimal count))
fault_text NotWritten = codes "jdoc: cannot write"
fault_text NoMemory = codes "jdoc: no memory"

-- the line of a fault on standard error
abbrev pub line_of : Fault → List ℕ
line_of fault = fault_text fault ++ codes "\n"
