-- Numbers alone as the parts of a step.
use Rattle.std.specs.Prelude.{ℕ, Result, Ok, Err}
use Rattle.ids.specs.declared.refusal.Refusal.{Refusal}
use Rattle.ids.specs.declared.refusal.Refusal.TheVariants.{BadLine}
use Rattle.serde_json.specs.Data.{Items, no_items, item}
use Rattle.world.specs.wire.Forms.{and_then, number_form}

-- one part, a number
abbrev pub one_number : Items → Result ℕ Refusal
one_number (item x no_items) = number_form x
one_number _ = Err BadLine

-- two parts, both numbers
abbrev pub two_numbers : Items → Result (ℕ × ℕ) Refusal
two_numbers (item x (item y no_items)) = and_then (λ m. and_then (λ n. Ok (m, n)) (number_form y)) (number_form x)
two_numbers _ = Err BadLine

-- three parts, all numbers
abbrev pub three_numbers : Items → Result (ℕ × ℕ × ℕ) Refusal
three_numbers (item x (item y (item z no_items))) =
    and_then (λ m. and_then (λ n. and_then (λ o. Ok (m, n, o)) (number_form z)) (number_form y)) (number_form x)
three_numbers _ = Err BadLine

-- four parts, all numbers
abbrev pub four_numbers : Items → Result (ℕ × ℕ × ℕ × ℕ) Refusal
four_numbers (item w (item x (item y (item z no_items)))) =
    and_then
    (λ k. and_then
    (λ m. and_then (λ n. and_then (λ o. Ok (k, m, n, o)) (number_form z)) (number_form y)) (number_form x)) (number_form w)
four_numbers _ = Err BadLine
