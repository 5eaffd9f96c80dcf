-- What a command is as JSON.
use Rattle.std.specs.Prelude.{ℕ, List, codes, Result, Ok, Err, if◌then◌else◌}
use Rattle.std.specs.Str.{bytes_eq}
use Rattle.ids.specs.declared.refusal.Refusal.{Refusal}
use Rattle.ids.specs.declared.refusal.Refusal.TheVariants.{BadLine}
use Rattle.semantics.specs.Elements.{Value}
use Rattle.semantics.specs.Operations.{Mutation, Assign, Insert, Delete}
use Rattle.semantics.specs.Making.{Command}
use Rattle.serde_json.specs.Data.{Data, Items, no_items, item}
use Rattle.document.specs.value.Forms.{value_form}
use Rattle.wire.specs.Forms.{and_then, phrase_form}
use Rattle.requests.specs.declared.edition.Edition.{Edition}
use Rattle.requests.specs.Expressions.{expression_form}

-- an expression, and a value that is written there
abbrev pub writing_of : Edition → (Value → Mutation) → Items → Result Command Refusal
writing_of edition how (item expression (item written no_items)) =
    and_then (λ e. and_then (λ v. Ok (record { expression = e; mutation = how v })) (value_form written))
    (expression_form edition expression)
writing_of edition how _ = Err BadLine

-- an expression alone
abbrev pub delete_of : Edition → Items → Result Command Refusal
delete_of edition (item expression no_items) = and_then (λ e. Ok (record { expression = e; mutation = Delete }))
    (expression_form edition expression)
delete_of edition _ = Err BadLine

-- by its word
abbrev pub command_of : Edition → List ℕ × Items → Result Command Refusal
command_of edition p = if bytes_eq p.0 (codes "assign") then writing_of edition Assign p.1
    else (if bytes_eq p.0 (codes "insert") then writing_of edition Insert p.1
    else (if bytes_eq p.0 (codes "delete") then delete_of edition p.1 else Err BadLine))

-- a list of a word and its parts
abbrev pub command_form : Edition → Data → Result Command Refusal
command_form edition d = and_then (command_of edition) (phrase_form d)
