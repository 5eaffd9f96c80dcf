-- Bundles: the lines of operations, each with its line feed, and each relative to the vector of the operation before.
use Rattle.std.specs.Prelude.{◌≡◌, ◌⊎◌, ⊤, ℕ, ◌+◌, List, [], ◌∷◌, ◌++◌, length, Option, Some, None, Result, Ok, Err, IsUtf8}
use Rattle.std.specs.Option.{option_map_or}
use Rattle.ids.specs.declared.refusal.Refusal.{Refusal}
use Rattle.ids.specs.declared.refusal.Refusal.TheVariants.{NoMemory, BadLine}
use Rattle.semantics.specs.Stamped.{Stamped}
use Rattle.semantics.specs.Vectors.{Vector}
use Rattle.serde_json.specs.Data.{Data}
use Rattle.serde_json.specs.Written.{compact_text}
use Rattle.wire.specs.Lines.{Bad, cut}
use Rattle.wire.specs.Profiles.{Profile, json_in, line_form, op2_line}

-- ---- writing

-- each operation on a line of its own in profile 2, the first one relative to this base
abbrev pub bundle_text : Vector → List Stamped → List ℕ
bundle_text base [] = []
bundle_text base (s ∷ ss) = op2_line base s ++ 10 ∷ bundle_text s.vector ss

-- the base of what follows these operations: the vector of the last one
abbrev pub base_after : Vector → List Stamped → Vector
base_after base [] = base
base_after base (s ∷ ss) = base_after s.vector ss

-- operations, each in its profile
abbrev pub jsons_in : Vector → List (Profile × Stamped) → List Data
jsons_in base [] = []
jsons_in base (l ∷ ls) = json_in l.0 base l.1 ∷ jsons_in l.1.vector ls

-- a line of each
abbrev pub lines_text : List Data → List ℕ
lines_text [] = []
lines_text (d ∷ ds) = compact_text d ++ 10 ∷ lines_text ds

-- ---- reading

-- the operations before the first bad line, and why that line is bad, if there is one
pub record Readable : Type 0 where
  pub operations : List Stamped
  pub stopped : Option Refusal

-- bytes after the last line are a bad line
abbrev pub tail_readable : List ℕ → Readable
tail_readable [] = record { operations = []; stopped = None }
tail_readable (b ∷ tail) = record { operations = []; stopped = Some BadLine }

-- what a line reads as, and what follows it relative to its vector, unless it is bad
abbrev pub line_readable : (Vector → Readable) → Result Stamped Refusal → Readable
line_readable rest (Ok s) = record { operations = s ∷ (rest s.vector).operations; stopped = (rest s.vector).stopped }
line_readable rest (Err why) = record { operations = []; stopped = Some why }

-- what can be read of these lines, of either profile, and of the bytes after them
abbrev pub lines_readable : Vector → List (List ℕ) → List ℕ → Readable
lines_readable base [] tail = tail_readable tail
lines_readable base (l ∷ ls) tail = line_readable (λ v. lines_readable v ls tail) (line_form base l)

-- what can be read of a text whose first line is relative to a base; in a whole bundle that is the empty vector
abbrev pub readable : Vector → List ℕ → Readable
readable base text = lines_readable base (cut text).lines (cut text).tail

-- all operations, or the number of the bad line, which is the next one, and why it is bad
abbrev pub all_or_bad : Readable → Result (List Stamped) Bad
all_or_bad r = option_map_or (λ why. Err (length r.operations + 1, why)) r.stopped (Ok r.operations)

-- the operations of a bundle, or its first bad line
abbrev pub bundle_form : Vector → List ℕ → Result (List Stamped) Bad
bundle_form base text = all_or_bad (readable base text)

-- the number of a bad line with its refusal, or NoMemory for any line
abbrev pub IsBadOf : {T : Type 0} → Result T Bad → Bad → Type 0
IsBadOf wanted bad = (bad.1 ≡ NoMemory) ⊎ (wanted ≡ Err bad)

-- ---- what is written and read

-- the lines of these operations are UTF-8
abbrev pub AreUtf8 : List Data → Type 0
AreUtf8 [] = ⊤
AreUtf8 (d ∷ ds) = IsUtf8 (compact_text d) × AreUtf8 ds

-- each line is read as its operation, relative to the vector of the one before it
abbrev pub AreReadBack : Vector → List (Profile × Stamped) → Type 0
AreReadBack base [] = ⊤
AreReadBack base (l ∷ ls) = (line_form base (compact_text (json_in l.0 base l.1)) ≡ Ok l.1) × AreReadBack l.1.vector ls
