-- A list whose length isn't that of a form doesn't have that form.
use Rattle.std.proofs.Common.{◌≡◌, ◌≢◌, ℕ, List, [], ◌∷◌, length, Err, refl}
use Rattle.std.proofs.lemmas.Bool.{ltb-true, ltb-false}
use Rattle.ids.specs.declared.refusal.Refusal.TheVariants.{BadLine}
use Rattle.serde_json.specs.declared.value.Value.{Value}
use Rattle.serde_json.specs.View.{items_view}
use Rattle.wire.specs.Deltas.{change_of}
use Rattle.wire.specs.Messages.{only_vector}
use Rattle.wire.specs.OpIds.{id_of}
use Rattle.wire.specs.Places.{only_key}
use Rattle.wire.specs.Reading.{five_parts, nothing_more, only_value}
use Rattle.wire.specs.Vectors.{pair_of}

pub pair_of-wrong_length : (xs : List Value) → length xs ≢ 2 → pair_of (items_view xs) ≡ Err BadLine
pair_of-wrong_length [] h = refl
pair_of-wrong_length (a ∷ []) h = refl
pair_of-wrong_length (a ∷ b ∷ []) h = absurd (h refl)
pair_of-wrong_length (a ∷ b ∷ d ∷ xs) h = refl

pub change_of-wrong_length : (xs : List Value) → length xs ≢ 2 → change_of (items_view xs) ≡ Err BadLine
change_of-wrong_length [] h = refl
change_of-wrong_length (a ∷ []) h = refl
change_of-wrong_length (a ∷ b ∷ []) h = absurd (h refl)
change_of-wrong_length (a ∷ b ∷ d ∷ xs) h = refl

pub only_vector-wrong_length : (xs : List Value) → length xs ≢ 1 → only_vector (items_view xs) ≡ Err BadLine
only_vector-wrong_length [] h = refl
only_vector-wrong_length (a ∷ []) h = absurd (h refl)
only_vector-wrong_length (a ∷ b ∷ xs) h = refl

pub id_of-wrong_length : (xs : List Value) → length xs ≢ 2 → id_of (items_view xs) ≡ Err BadLine
id_of-wrong_length [] h = refl
id_of-wrong_length (a ∷ []) h = refl
id_of-wrong_length (a ∷ b ∷ []) h = absurd (h refl)
id_of-wrong_length (a ∷ b ∷ d ∷ xs) h = refl

pub only_key-wrong_length : (xs : List Value) → length xs ≢ 1 → only_key (items_view xs) ≡ Err BadLine
only_key-wrong_length [] h = refl
only_key-wrong_length (a ∷ []) h = absurd (h refl)
only_key-wrong_length (a ∷ b ∷ xs) h = refl

pub only_value-wrong_length : (xs : List Value) → length xs ≢ 1 → only_value (items_view xs) ≡ Err BadLine
only_value-wrong_length [] h = refl
only_value-wrong_length (a ∷ []) h = absurd (h refl)
only_value-wrong_length (a ∷ b ∷ xs) h = refl

pub nothing_more-wrong_length : (xs : List Value) → length xs ≢ 0 → nothing_more (items_view xs) ≡ Err BadLine
nothing_more-wrong_length [] h = absurd (h refl)
nothing_more-wrong_length (a ∷ xs) h = refl

pub five_parts-wrong_length : (xs : List Value) → length xs ≢ 5 → five_parts (items_view xs) ≡ Err BadLine
five_parts-wrong_length [] h = refl
five_parts-wrong_length (a ∷ []) h = refl
five_parts-wrong_length (a ∷ b ∷ []) h = refl
five_parts-wrong_length (a ∷ b ∷ d ∷ []) h = refl
five_parts-wrong_length (a ∷ b ∷ d ∷ e ∷ []) h = refl
five_parts-wrong_length (a ∷ b ∷ d ∷ e ∷ f ∷ []) h = absurd (h refl)
five_parts-wrong_length (a ∷ b ∷ d ∷ e ∷ f ∷ g ∷ xs) h = refl

-- the same with what a slice pattern tests of its length
pub ruleset wrong_lengths = (
  ltb-true,
  ltb-false,
  pair_of-wrong_length,
  change_of-wrong_length,
  only_vector-wrong_length,
  id_of-wrong_length,
  only_key-wrong_length,
  only_value-wrong_length,
  nothing_more-wrong_length,
  five_parts-wrong_length,
)
