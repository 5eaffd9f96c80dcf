-- A list whose length isn't that of a form doesn't have that form.
use Rattle.std.proofs.Common.{◌≡◌, ◌≢◌, List, [], ◌∷◌, length, Err, refl}
use Rattle.std.proofs.lemmas.Bool.{ltb-true, ltb-false}
use Rattle.ids.specs.declared.refusal.Refusal.TheVariants.{BadLine}
use Rattle.serde_json.specs.declared.value.Value.{Value}
use Rattle.serde_json.specs.View.{items_view}
use Rattle.semantics.specs.Elements.{Value as TheValue}
use Rattle.semantics.specs.Operations.{Mutation}
use Rattle.semantics.specs.Questions.{Step, Question}
use Rattle.requests.specs.declared.edition.Edition.{Edition}
use Rattle.requests.specs.Commands.{delete_of, writing_of}
use Rattle.requests.specs.Questions.{applied_of, asking_of, missing_of}

pub writing_of-wrong_length : (edition : Edition) (how : TheValue → Mutation) → (xs : List Value) → length xs ≢ 2
    → writing_of edition how (items_view xs) ≡ Err BadLine
writing_of-wrong_length edition how [] h = refl
writing_of-wrong_length edition how (a ∷ []) h = refl
writing_of-wrong_length edition how (a ∷ b ∷ []) h = absurd (h refl)
writing_of-wrong_length edition how (a ∷ b ∷ d ∷ xs) h = refl

pub delete_of-wrong_length : (edition : Edition) (xs : List Value) → length xs ≢ 1 → delete_of edition (items_view xs) ≡ Err BadLine
delete_of-wrong_length edition [] h = refl
delete_of-wrong_length edition (a ∷ []) h = absurd (h refl)
delete_of-wrong_length edition (a ∷ b ∷ xs) h = refl

pub asking_of-wrong_length : (edition : Edition) (what : List Step → Question) → (xs : List Value) → length xs ≢ 1
    → asking_of edition what (items_view xs) ≡ Err BadLine
asking_of-wrong_length edition what [] h = refl
asking_of-wrong_length edition what (a ∷ []) h = absurd (h refl)
asking_of-wrong_length edition what (a ∷ b ∷ xs) h = refl

pub missing_of-wrong_length : (xs : List Value) → length xs ≢ 1 → missing_of (items_view xs) ≡ Err BadLine
missing_of-wrong_length [] h = refl
missing_of-wrong_length (a ∷ []) h = absurd (h refl)
missing_of-wrong_length (a ∷ b ∷ xs) h = refl

pub applied_of-wrong_length : (xs : List Value) → length xs ≢ 0 → applied_of (items_view xs) ≡ Err BadLine
applied_of-wrong_length [] h = absurd (h refl)
applied_of-wrong_length (a ∷ xs) h = refl

-- each with what a slice pattern tests of its length
pub ruleset command_lengths = (ltb-true, ltb-false, writing_of-wrong_length, delete_of-wrong_length)

pub ruleset question_lengths = (ltb-true, ltb-false, asking_of-wrong_length, missing_of-wrong_length, applied_of-wrong_length)
