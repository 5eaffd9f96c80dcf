-- A list whose length isn't that of a form doesn't have that form.
use Rattle.std.proofs.Common.{◌≡◌, ◌≢◌, ℕ, Some, List, [], ◌∷◌, length, Err, refl}
use Rattle.std.proofs.lemmas.Bool.{ltb-true, ltb-false}
use Rattle.ids.specs.declared.refusal.Refusal.TheVariants.{BadLine}
use Rattle.serde_json.specs.declared.value.Value.{Value}
use Rattle.serde_json.specs.View.{items_view}
use Rattle.scripts.specs.Engines.{engine_of, only_engines}
use Rattle.requests.specs.declared.edition.Edition.{Edition}
use Rattle.scripts.specs.Numbers.{one_number, two_numbers, three_numbers, four_numbers}
use Rattle.scripts.specs.Steps.{ask_of, line_of, push_of}

pub engine_of-wrong_length : (xs : List Value) → length xs ≢ 7 → engine_of (items_view xs) ≡ Err BadLine
engine_of-wrong_length [] h = refl
engine_of-wrong_length (a ∷ []) h = refl
engine_of-wrong_length (a ∷ b ∷ []) h = refl
engine_of-wrong_length (a ∷ b ∷ d ∷ []) h = refl
engine_of-wrong_length (a ∷ b ∷ d ∷ e ∷ []) h = refl
engine_of-wrong_length (a ∷ b ∷ d ∷ e ∷ f ∷ []) h = refl
engine_of-wrong_length (a ∷ b ∷ d ∷ e ∷ f ∷ g ∷ []) h = refl
engine_of-wrong_length (a ∷ b ∷ d ∷ e ∷ f ∷ g ∷ i ∷ []) h = absurd (h refl)
engine_of-wrong_length (a ∷ b ∷ d ∷ e ∷ f ∷ g ∷ i ∷ j ∷ xs) h = refl

pub only_engines-wrong_length : (xs : List Value) → length xs ≢ 1 → only_engines (items_view xs) ≡ Err BadLine
only_engines-wrong_length [] h = refl
only_engines-wrong_length (a ∷ []) h = absurd (h refl)
only_engines-wrong_length (a ∷ b ∷ xs) h = refl

pub push_of-wrong_length : (edition : Edition) (xs : List Value) → length xs ≢ 3 → push_of edition (items_view xs) ≡ Err BadLine
push_of-wrong_length edition [] h = refl
push_of-wrong_length edition (a ∷ []) h = refl
push_of-wrong_length edition (a ∷ b ∷ []) h = refl
push_of-wrong_length edition (a ∷ b ∷ d ∷ []) h = absurd (h refl)
push_of-wrong_length edition (a ∷ b ∷ d ∷ e ∷ xs) h = refl

pub ask_of-wrong_length : (edition : Edition) (xs : List Value) → length xs ≢ 3 → ask_of edition (items_view xs) ≡ Err BadLine
ask_of-wrong_length edition [] h = refl
ask_of-wrong_length edition (a ∷ []) h = refl
ask_of-wrong_length edition (a ∷ b ∷ []) h = refl
ask_of-wrong_length edition (a ∷ b ∷ d ∷ []) h = absurd (h refl)
ask_of-wrong_length edition (a ∷ b ∷ d ∷ e ∷ xs) h = refl

pub line_of-wrong_length : (xs : List Value) → length xs ≢ 3 → line_of (items_view xs) ≡ Err BadLine
line_of-wrong_length [] h = refl
line_of-wrong_length (a ∷ []) h = refl
line_of-wrong_length (a ∷ b ∷ []) h = refl
line_of-wrong_length (a ∷ b ∷ d ∷ []) h = absurd (h refl)
line_of-wrong_length (a ∷ b ∷ d ∷ e ∷ xs) h = refl

pub one_number-wrong_length : (xs : List Value) → length xs ≢ 1 → one_number (items_view xs) ≡ Err BadLine
one_number-wrong_length [] h = refl
one_number-wrong_length (a ∷ []) h = absurd (h refl)
one_number-wrong_length (a ∷ b ∷ xs) h = refl

pub two_numbers-wrong_length : (xs : List Value) → length xs ≢ 2 → two_numbers (items_view xs) ≡ Err BadLine
two_numbers-wrong_length [] h = refl
two_numbers-wrong_length (a ∷ []) h = refl
two_numbers-wrong_length (a ∷ b ∷ []) h = absurd (h refl)
two_numbers-wrong_length (a ∷ b ∷ d ∷ xs) h = refl

pub three_numbers-wrong_length : (xs : List Value) → length xs ≢ 3 → three_numbers (items_view xs) ≡ Err BadLine
three_numbers-wrong_length [] h = refl
three_numbers-wrong_length (a ∷ []) h = refl
three_numbers-wrong_length (a ∷ b ∷ []) h = refl
three_numbers-wrong_length (a ∷ b ∷ d ∷ []) h = absurd (h refl)
three_numbers-wrong_length (a ∷ b ∷ d ∷ e ∷ xs) h = refl

pub four_numbers-wrong_length : (xs : List Value) → length xs ≢ 4 → four_numbers (items_view xs) ≡ Err BadLine
four_numbers-wrong_length [] h = refl
four_numbers-wrong_length (a ∷ []) h = refl
four_numbers-wrong_length (a ∷ b ∷ []) h = refl
four_numbers-wrong_length (a ∷ b ∷ d ∷ []) h = refl
four_numbers-wrong_length (a ∷ b ∷ d ∷ e ∷ []) h = absurd (h refl)
four_numbers-wrong_length (a ∷ b ∷ d ∷ e ∷ f ∷ xs) h = refl

-- each with what a slice pattern tests of its length
pub ruleset engine_lengths = (ltb-true, ltb-false, engine_of-wrong_length, only_engines-wrong_length)

pub ruleset step_lengths = (ltb-true, ltb-false, push_of-wrong_length, ask_of-wrong_length, line_of-wrong_length)

pub ruleset number_lengths = (
  ltb-true,
  ltb-false,
  one_number-wrong_length,
  two_numbers-wrong_length,
  three_numbers-wrong_length,
  four_numbers-wrong_length,
)
