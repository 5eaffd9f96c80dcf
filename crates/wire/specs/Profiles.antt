-- The two profiles of a line: profile 2 writes an operation's vector as what changed from a base, the vector of the operation before.
use Rattle.std.specs.Prelude.{ℕ, ⊤, ◌≤◌, IsTrue, nat_le, if◌then◌else◌, List, [], ◌∷◌, length, codes, Result, Err}
use Rattle.std.specs.Str.{bytes_eq}
use Rattle.ids.specs.declared.refusal.Refusal.{Refusal}
use Rattle.ids.specs.declared.refusal.Refusal.TheVariants.{BadLine}
use Rattle.ids.specs.Vectors.{most_named}
use Rattle.semantics.specs.Limits.{most_counter, most_keys}
use Rattle.semantics.specs.Operations.{element_of}
use Rattle.semantics.specs.Paths.{hops_from_root}
use Rattle.semantics.specs.Stamped.{Stamped}
use Rattle.semantics.specs.Vectors.{IsCanonical, Vector}
use Rattle.serde_json.specs.Data.{Data, Items}
use Rattle.serde_json.specs.Written.{compact_text}
use Rattle.operation.specs.cursor.Places.{depth_of}
use Rattle.wire.specs.Deltas.{delta, delta_form}
use Rattle.wire.specs.Forms.{and_then, json_form, phrase_form}
use Rattle.wire.specs.Operations.{id_json, last_json, mutation_json, operation_json, path_json, phrase}
use Rattle.wire.specs.Reading.{Fields, fields_of, fields_with, five_parts}
use Rattle.wire.specs.Sent.{AreSentKeys, IsReplicaNumber, IsSentId, IsSentMutation}
use Rattle.wire.specs.Vectors.{vector_json}

-- ---- writing

-- an operation relative to a base: its vector as its differences from the base
abbrev pub op2_json : Vector → Stamped → Data
op2_json base s = phrase (codes "op2")
    (id_json s.id ∷ vector_json (delta base s.vector) ∷ path_json s.place ∷ last_json s.place ∷ mutation_json s.mutation ∷ [])

-- its line
abbrev pub op2_line : Vector → Stamped → List ℕ
op2_line base s = compact_text (op2_json base s)

-- how an operation's vector is written: whole, in profile 1, or as its differences from a base, in profile 2
pub data Profile : Type 0 where
  Whole : Profile
  Differences : Profile

-- an operation relative to a base, in a profile
abbrev pub json_in : Profile → Vector → Stamped → Data
json_in Whole base s = operation_json s
json_in Differences base s = op2_json base s

-- ---- reading

-- the operation of these fields, whose vector is written as what changed
abbrev pub fields_beside : Vector → Fields → Result Stamped Refusal
fields_beside base f = fields_with (delta_form base) f

-- by its word, of either profile
abbrev pub beside_of : Vector → List ℕ × Items → Result Stamped Refusal
beside_of base p = if bytes_eq p.0 (codes "op") then and_then fields_of (five_parts p.1)
    else (if bytes_eq p.0 (codes "op2") then and_then (fields_beside base) (five_parts p.1) else Err BadLine)

-- the operation that JSON of either profile stands for
abbrev pub operation_beside : Vector → Data → Result Stamped Refusal
operation_beside base d = and_then (beside_of base) (phrase_form d)

-- the operation on a line of either profile, relative to the vector of the operation before
abbrev pub line_form : Vector → List ℕ → Result Stamped Refusal
line_form base text = and_then (operation_beside base) (json_form text)

-- ---- what a line can carry

-- pairs of replicas, each with a counter or 0, whose numbers are within their limits
abbrev pub AreSentChanges : Vector → Type 0
AreSentChanges [] = ⊤
AreSentChanges (a ∷ d) = (IsReplicaNumber a.replica × IsTrue (nat_le a.counter most_counter)) × AreSentChanges d

-- all lengths and numbers are within their limits, where the vector is written as its differences from a base
pub record IsSentBeside (base : Vector) (s : Stamped) : Type 0 where
  pub id : IsSentId s.id
  pub canonical : IsCanonical s.vector
  pub changes : AreSentChanges (delta base s.vector)
  pub few_pairs : length s.vector ≤ most_named
  pub keys : AreSentKeys (hops_from_root (element_of s.place))
  pub few : depth_of s.place ≤ most_keys
  pub mutation : IsSentMutation s.mutation
