-- What an operation is in JSON, part by part in the order in which the first fault decides.
use Rattle.std.specs.Prelude.{ℕ, List, codes, Result, Ok, Err, if◌then◌else◌}
use Rattle.std.specs.Str.{bytes_eq}
use Rattle.ids.specs.declared.refusal.Refusal.{Refusal}
use Rattle.ids.specs.declared.refusal.Refusal.TheVariants.{BadLine}
use Rattle.semantics.specs.Elements.{Value}
use Rattle.semantics.specs.Operations.{Mutation, Assign, Insert, Delete}
use Rattle.semantics.specs.Stamped.{Stamped}
use Rattle.semantics.specs.Vectors.{Vector}
use Rattle.serde_json.specs.Data.{Data, Items, no_items, item}
use Rattle.operation.specs.value.Forms.{value_form}
use Rattle.wire.specs.Forms.{and_then, json_form, phrase_form}
use Rattle.wire.specs.OpIds.{id_form}
use Rattle.wire.specs.Places.{place_form}
use Rattle.wire.specs.Vectors.{vector_form}

-- a value alone
abbrev pub only_value : Items → Result Value Refusal
only_value (item written no_items) = value_form written
only_value _ = Err BadLine

-- nothing
abbrev pub nothing_more : Items → Result Mutation Refusal
nothing_more no_items = Ok Delete
nothing_more (item _ _) = Err BadLine

-- by its word
abbrev pub mutation_of : List ℕ × Items → Result Mutation Refusal
mutation_of p = if bytes_eq p.0 (codes "a") then and_then (λ v. Ok (Assign v)) (only_value p.1)
    else (if bytes_eq p.0 (codes "i") then and_then (λ v. Ok (Insert v)) (only_value p.1)
    else (if bytes_eq p.0 (codes "d") then nothing_more p.1 else Err BadLine))

-- what is done: a word, and the value that is written
abbrev pub mutation_form : Data → Result Mutation Refusal
mutation_form d = and_then mutation_of (phrase_form d)

-- the fields of an operation, unread
pub record Fields : Type 0 where
  pub id : Data
  pub vector : Data
  pub path : Data
  pub last : Data
  pub mutation : Data

-- five parts
abbrev pub five_parts : Items → Result Fields Refusal
five_parts (item id (item vector (item path (item last (item mutation no_items))))) =
    Ok (record { id = id; vector = vector; path = path; last = last; mutation = mutation })
five_parts _ = Err BadLine

-- five parts after the word
abbrev pub parts_after : List ℕ × Items → Result Fields Refusal
parts_after p = if bytes_eq p.0 (codes "op") then five_parts p.1 else Err BadLine

-- the fields that JSON has
abbrev pub fields_form : Data → Result Fields Refusal
fields_form d = and_then parts_after (phrase_form d)

-- the operation of these fields, if the vector is read in this way: an id, a vector, a path with its last key, and what is done
abbrev pub fields_with : (Data → Result Vector Refusal) → Fields → Result Stamped Refusal
fields_with read_vector f =
    and_then (λ a. and_then (λ v. and_then (λ p. and_then (λ m. Ok (record { id = a; vector = v; place = p; mutation = m }))
    (mutation_form f.mutation)) (place_form f.path f.last)) (read_vector f.vector)) (id_form f.id)

-- the operation of these fields, with a whole vector
abbrev pub fields_of : Fields → Result Stamped Refusal
fields_of f = fields_with vector_form f

-- the operation that JSON stands for
abbrev pub operation_form : Data → Result Stamped Refusal
operation_form d = and_then fields_of (fields_form d)

-- the operation on a line
abbrev pub op_form : List ℕ → Result Stamped Refusal
op_form text = and_then operation_form (json_form text)
