-- A list whose length isn't that of a form doesn't have that form.
use Rattle.std.proofs.Common.{◌≡◌, ◌≢◌, ℕ, List, [], ◌∷◌, length, Err, refl}
use Rattle.std.proofs.lemmas.Bool.{ltb-true, ltb-false}
use Rattle.ids.specs.declared.refusal.Refusal.TheVariants.{BadLine}
use Rattle.serde_json.specs.declared.value.Value.{Value}
use Rattle.serde_json.specs.View.{items_view}
use Rattle.calls.specs.Calls.{Call, glance_of, nothing_of, text_of}

pub glance_of-wrong_length : (xs : List Value) → length xs ≢ 3 → glance_of (items_view xs) ≡ Err BadLine
glance_of-wrong_length [] h = refl
glance_of-wrong_length (a ∷ []) h = refl
glance_of-wrong_length (a ∷ b ∷ []) h = refl
glance_of-wrong_length (a ∷ b ∷ d ∷ []) h = absurd (h refl)
glance_of-wrong_length (a ∷ b ∷ d ∷ e ∷ xs) h = refl

pub text_of-wrong_length : (what : List ℕ → Call) (xs : List Value) → length xs ≢ 1 → text_of what (items_view xs) ≡ Err BadLine
text_of-wrong_length what [] h = refl
text_of-wrong_length what (a ∷ []) h = absurd (h refl)
text_of-wrong_length what (a ∷ b ∷ xs) h = refl

pub nothing_of-wrong_length : (what : Call) (xs : List Value) → length xs ≢ 0 → nothing_of what (items_view xs) ≡ Err BadLine
nothing_of-wrong_length what [] h = absurd (h refl)
nothing_of-wrong_length what (a ∷ xs) h = refl

-- each with what a slice pattern tests of its length
pub ruleset call_lengths = (ltb-true, ltb-false, glance_of-wrong_length, text_of-wrong_length, nothing_of-wrong_length)
