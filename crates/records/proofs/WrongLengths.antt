-- A list whose length isn't that of a form doesn't have that form.
use Rattle.std.proofs.Common.{◌≡◌, ◌≢◌, List, [], ◌∷◌, length, Err, refl}
use Rattle.std.proofs.lemmas.Bool.{ltb-true, ltb-false}
use Rattle.ids.specs.declared.refusal.Refusal.TheVariants.{BadLine}
use Rattle.serde_json.specs.declared.value.Value.{Value}
use Rattle.serde_json.specs.View.{items_view}
use Rattle.records.specs.Lines.{commanded_of}

pub commanded_of-wrong_length : (xs : List Value) → length xs ≢ 2 → commanded_of (items_view xs) ≡ Err BadLine
commanded_of-wrong_length [] h = refl
commanded_of-wrong_length (a ∷ []) h = refl
commanded_of-wrong_length (a ∷ b ∷ []) h = absurd (h refl)
commanded_of-wrong_length (a ∷ b ∷ d ∷ xs) h = refl

-- each with what a slice pattern tests of its length
pub ruleset record_lengths = (ltb-true, ltb-false, commanded_of-wrong_length)
