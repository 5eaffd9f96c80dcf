-- What is taken from the tokens of a line.
use Rattle.std.specs.Prelude.{◌≡◌, ℕ, ◌≤◌, List, Some, length, Result, Ok}
use Rattle.ids.specs.declared.refusal.Refusal.{Refusal}
use Rattle.json.specs.Json as json
use Rattle.json.specs.Json.{Json, value}
use Rattle.json.specs.Token.{Token}
use Rattle.serde_json.specs.Data.{Data, Items}
use Rattle.serde_json.specs.Read.{of_items, of_json}

-- the first tokens are this JSON, which nests lists and objects at most this many levels deep, and the others are left
abbrev pub IsReadAs : ℕ → List Token → Data → List Token → Type 0
IsReadAs levels tokens d left =
    (j : Json) × (of_json j ≡ Some d) × ((depth : ℕ) → levels ≤ depth → value depth tokens ≡ Some (j, left))

-- the first tokens are these parts of a list and its end, and the others are left
abbrev pub ArePartsOf : ℕ → List Token → Items → List Token → Type 0
ArePartsOf levels tokens ds left =
    (js : json.Items) × (of_items js ≡ Some ds)
    × ((depth n : ℕ) → levels ≤ depth → length tokens ≤ n → json.items (value depth) n tokens ≡ Some (js, left))

-- the first tokens are JSON with this meaning
abbrev pub IsTakenAs : {T : Type 0} → ℕ → (Data → Result T Refusal) → List Token → T → List Token → Type 0
IsTakenAs levels form tokens meant left = (d : Data) × IsReadAs levels tokens d left × (form d ≡ Ok meant)

-- the first tokens are parts with this meaning, and the end of their list
abbrev pub ArePartsTakenAs : {T : Type 0} → ℕ → (Items → Result T Refusal) → List Token → T → List Token → Type 0
ArePartsTakenAs levels form tokens meant left = (ds : Items) × ArePartsOf levels tokens ds left × (form ds ≡ Ok meant)
