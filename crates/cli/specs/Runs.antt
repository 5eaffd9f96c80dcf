-- What a run of a script does to what it reads and writes, if the bytes of those are known.
use Rattle.std.specs.Prelude.{◌≡◌, ◌⊎◌, ℕ, List, Option, IfSome, ⊤}
use Rattle.std.specs.Io.KnownBytes.{Appends}
use Rattle.scripts.specs.Errors.{IsErrorOf}
use Rattle.scripts.specs.Runs.{IsReplyText}
use Rattle.scripts.specs.Scripts.{script_form}
use Rattle.cli.specs.Faults.{line_of, status_of}
use Rattle.cli.specs.declared.fault.Fault.{Fault}
use Rattle.cli.specs.declared.fault.Fault.TheVariants.{Script, CannotRead, NoMemory}
use Rattle.cli.specs.declared.fault.Status.TheVariants.{BadInput}

-- done, bad input, no memory, or not written
abbrev pub IsStatus : ℕ → Type 0
IsStatus status = (status ≡ 0) ⊎ ((status ≡ 2) ⊎ ((status ≡ 4) ⊎ (status ≡ 5)))

-- if the bytes that are read are known, the lines of the replies to them were written, and nothing else
abbrev pub AppendsReplies : Option (List ℕ) → Option (List ℕ) → Option (List ℕ) → Type 0
AppendsReplies read old new = IfSome read (λ bytes. (text : List ℕ) × IsReplyText bytes text × Appends old new text)

-- the fault is one that a script of this name and these bytes can have: it reports the name, or the first bad line of the bytes
abbrev pub IsFaultOf : List ℕ → Option (List ℕ) → Fault → Type 0
IsFaultOf name read (Script error) = IfSome read (λ bytes. IsErrorOf (script_form bytes) error)
IsFaultOf name read (CannotRead told) = told.now ≡ name
IsFaultOf name read NoMemory = ⊤
IsFaultOf name read _ = ⊥

-- a line was written that the script can't be read, or that reports its first bad line, and nothing else
abbrev pub TellsBadScript : List ℕ → Option (List ℕ) → Option (List ℕ) → Option (List ℕ) → Type 0
TellsBadScript name read old new =
    (fault : Fault) × IsFaultOf name read fault × (status_of fault ≡ BadInput) × Appends old new (line_of fault)
