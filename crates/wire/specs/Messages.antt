-- The lines of operations and of vectors.
use Rattle.std.specs.Prelude.{ℕ, List, [], ◌∷◌, codes, Result, Err, if◌then◌else◌}
use Rattle.std.specs.Str.{bytes_eq}
use Rattle.ids.specs.declared.refusal.Refusal.{Refusal}
use Rattle.ids.specs.declared.refusal.Refusal.TheVariants.{BadLine}
use Rattle.semantics.specs.Stamped.{Stamped}
use Rattle.semantics.specs.Vectors.{Vector}
use Rattle.serde_json.specs.Data.{Data, Items, no_items, item}
use Rattle.serde_json.specs.Written.{compact_text}
use Rattle.wire.specs.Forms.{and_then, json_form, phrase_form}
use Rattle.wire.specs.Vectors.{vector_form, vector_json}
use Rattle.wire.specs.Operations.{operation_json, phrase}

-- ---- writing, in JSON without spaces

-- an operation's line
abbrev pub op_line : Stamped → List ℕ
op_line s = compact_text (operation_json s)

-- a vector after its word
abbrev pub hello_json : Vector → Data
hello_json v = phrase (codes "hello") (vector_json v ∷ [])

-- a vector's line
abbrev pub vector_line : Vector → List ℕ
vector_line v = compact_text (hello_json v)

-- ---- reading

-- a vector alone
abbrev pub only_vector : Items → Result Vector Refusal
only_vector (item vector no_items) = vector_form vector
only_vector _ = Err BadLine

-- a vector after its word
abbrev pub hello_of : List ℕ × Items → Result Vector Refusal
hello_of p = if bytes_eq p.0 (codes "hello") then only_vector p.1 else Err BadLine

-- the vector on a line
abbrev pub hello_form : List ℕ → Result Vector Refusal
hello_form text = and_then hello_of (and_then phrase_form (json_form text))
