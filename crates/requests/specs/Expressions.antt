-- What an expression is as JSON: the steps to a place.
use Rattle.std.specs.Prelude.{ℕ, List, [], ◌∷◌, length, nat_lt, if◌then◌else◌, is_some, Result, Ok, Err}
use Rattle.std.specs.Option.{option_map_or}
use Rattle.ids.specs.declared.refusal.Refusal.{Refusal}
use Rattle.ids.specs.declared.refusal.Refusal.TheVariants.{KeyTooLong}
use Rattle.semantics.specs.Limits.{most_key_bytes}
use Rattle.semantics.specs.Questions.{Step, Get, Idx, ById}
use Rattle.serde_json.specs.Data.{Data, Items, no_items, item}
use Rattle.serde_json.specs.Find.{as_array, as_str}
use Rattle.wire.specs.Forms.{and_then, number_form, list_form}
use Rattle.wire.specs.OpIds.{id_form}
use Rattle.requests.specs.declared.edition.Edition.{Edition}
use Rattle.requests.specs.declared.edition.Edition.TheVariants.{First, Second}

-- a step to the field with this key
abbrev pub get_form : List ℕ → Result Step Refusal
get_form key = if nat_lt most_key_bytes (length key) then Err KeyTooLong else Ok (Get key)

-- a number is the index of an item
abbrev pub index_form : Data → Result Step Refusal
index_form d = and_then (λ i. Ok (Idx i)) (number_form d)

-- in the second edition a list is an item's id
abbrev pub item_form : Edition → Data → Result Step Refusal
item_form First d = index_form d
item_form Second d = if is_some (as_array d) then and_then (λ a. Ok (ById a)) (id_form d) else index_form d

-- a text is a key, and anything else leads to an item
abbrev pub path_step_form : Edition → Data → Result Step Refusal
path_step_form edition d = option_map_or get_form (as_str d) (item_form edition d)

-- each step in its turn
abbrev pub path_steps_of : Edition → Items → Result (List Step) Refusal
path_steps_of edition no_items = Ok []
path_steps_of edition (item step steps) =
    and_then (λ s. and_then (λ ss. Ok (s ∷ ss)) (path_steps_of edition steps)) (path_step_form edition step)

-- a list of steps; the first that has no form decides
abbrev pub expression_form : Edition → Data → Result (List Step) Refusal
expression_form edition d = and_then (path_steps_of edition) (list_form d)
