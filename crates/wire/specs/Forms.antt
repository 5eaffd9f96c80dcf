-- What a line of a script and its parts are, as JSON. A part of another form is `BadLine`.
use Rattle.std.specs.Prelude.{◌≡◌, ◌⊎◌, ℕ, suc, List, option_and_then, Result, MatchResult, Ok, Err, if◌then◌else◌}
use Rattle.std.specs.Option.{ok_or}
use Rattle.std.specs.Str.{is_utf8}
use Rattle.ids.specs.declared.refusal.Refusal.{Refusal}
use Rattle.ids.specs.declared.refusal.Refusal.TheVariants.{NoMemory, BadLine}
use Rattle.serde_json.specs.Data.{Data, Items, no_items, item}
use Rattle.serde_json.specs.Find.{as_number, as_str, as_array, as_u64}
use Rattle.serde_json.specs.Read.{read}

-- this answer, or NoMemory
abbrev pub IsOrNoMemory : {T : Type 0} → Result T Refusal → Result T Refusal → Type 0
IsOrNoMemory r wanted = (r ≡ wanted) ⊎ (r ≡ Err NoMemory)

-- what was read means what is wanted; or it was refused, with the refusal that is wanted or NoMemory
abbrev pub IsRead : {T U : Type 0} → (T → U) → Result T Refusal → Result U Refusal → Type 0
IsRead meaning r wanted = MatchResult r (λ x. wanted ≡ Ok (meaning x)) (λ why. IsOrNoMemory (Err why) wanted)

-- the next answer, unless this one is a refusal
abbrev pub and_then : {A B : Type 0} → (A → Result B Refusal) → Result A Refusal → Result B Refusal
and_then next (Ok x) = next x
and_then next (Err why) = Err why

-- the JSON of a line
abbrev pub json_form : List ℕ → Result Data Refusal
json_form text = if is_utf8 text then ok_or (read text) BadLine else Err BadLine

-- a whole number that is not negative
abbrev pub number_form : Data → Result ℕ Refusal
number_form d = ok_or (option_and_then as_u64 (as_number d)) BadLine

-- a string, as its text
abbrev pub text_form : Data → Result (List ℕ) Refusal
text_form d = ok_or (as_str d) BadLine

-- an array, as its parts
abbrev pub list_form : Data → Result Items Refusal
list_form d = ok_or (as_array d) BadLine

-- how many parts there are
abbrev pub count_parts : Items → ℕ
count_parts no_items = 0
count_parts (item part parts) = suc (count_parts parts)

-- a word, and the parts after it
abbrev pub with_parts : Items → List ℕ → Result (List ℕ × Items) Refusal
with_parts parts word = Ok (word, parts)

-- the first part as a word, and the other parts
abbrev pub phrase_of : Items → Result (List ℕ × Items) Refusal
phrase_of no_items = Err BadLine
phrase_of (item first parts) = and_then (with_parts parts) (text_form first)

-- a list's first word and its other parts
abbrev pub phrase_form : Data → Result (List ℕ × Items) Refusal
phrase_form d = and_then phrase_of (list_form d)
