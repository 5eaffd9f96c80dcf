-- Values in JSON.
use Rattle.std.specs.Prelude.{◌≡◌, ℕ, ◌≤◌, nat_lt, if◌then◌else◌, List, length, FitsSigned, option_map, Result, Ok, Err, ⊤}
use Rattle.std.specs.Option.{ok_or}
use Rattle.std.specs.Int.{w64}
use Rattle.ids.specs.declared.refusal.Refusal.{Refusal}
use Rattle.ids.specs.declared.refusal.Refusal.TheVariants.{TextTooLong, NotWhole, BadLine}
use Rattle.semantics.specs.Limits.{most_text_bytes}
use Rattle.semantics.specs.Elements.{Scalar, Null, Boolean, Whole, Text, Value, Plain, EmptyMap, EmptyList}
use Rattle.serde_json.specs.Data.{Data, null, boolean, number, string, array, object, no_items, item, no_members, member}
use Rattle.serde_json.specs.Find.{as_i64, of_integer}

-- the value that a JSON value stands for, or why there is none
abbrev pub value_form : Data → Result Value Refusal
value_form null = Ok (Plain Null)
value_form (boolean b) = Ok (Plain (Boolean b))
value_form (number n) = ok_or (option_map (λ z. Plain (Whole z)) (as_i64 n)) NotWhole
value_form (string s) = if nat_lt most_text_bytes (length s) then Err TextTooLong else Ok (Plain (Text s))
value_form (array no_items) = Ok EmptyList
value_form (array (item _ _)) = Err BadLine
value_form (object no_members) = Ok EmptyMap
value_form (object (member _ _ _)) = Err BadLine

-- the JSON of a scalar
abbrev pub scalar_json : Scalar → Data
scalar_json Null = null
scalar_json (Boolean b) = boolean b
scalar_json (Whole z) = number (of_integer z)
scalar_json (Text s) = string s

-- the JSON of a value
abbrev pub json_of : Value → Data
json_of (Plain s) = scalar_json s
json_of EmptyMap = object no_members
json_of EmptyList = array no_items

-- the value is a text
abbrev pub IsText : Value → Type 0
IsText v = (s : List ℕ) × (v ≡ Plain (Text s))

-- what a value may be: a text has at most 4,096 bytes, and a whole number 64 bits
abbrev pub IsWithinLimits : Value → Type 0
IsWithinLimits (Plain Null) = ⊤
IsWithinLimits (Plain (Boolean b)) = ⊤
IsWithinLimits (Plain (Whole z)) = FitsSigned w64 z
IsWithinLimits (Plain (Text s)) = length s ≤ most_text_bytes
IsWithinLimits EmptyMap = ⊤
IsWithinLimits EmptyList = ⊤
