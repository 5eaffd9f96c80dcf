use Rattle.std.proofs.Common.{◌≡◌, List, ℕ, refl}
use Rattle.std.specs.Prelude.{codes}
use Rattle.std.specs.Str.{bytes_eq}
use Rattle.std.proofs.lemmas.Bool.{false_from_ne_true}
use Rattle.std.proofs.lemmas.Slice.Eq.{bytes_eq-Decides}
use Rattle.serde_json.specs.Data.{Items}
use Rattle.requests.specs.declared.edition.Edition.{Edition}
use Rattle.scripts.specs.NumberedSteps.{numbered_step_of}
use Rattle.scripts.specs.Steps.{any_step_of}
use Rattle.scripts.proofs.steps.step_in.Goals as goal

-- another word is that of a step with numbers alone
other_word : (edition : Edition) (word : List ℕ) (xs : Items) → (word ≡ codes "push" → ⊥) → (word ≡ codes "ask" → ⊥)
    → (word ≡ codes "line" → ⊥)
    → any_step_of edition (word, xs) ≡ numbered_step_of (word, xs)
other_word edition word xs push ask line = rw (
  false_from_ne_true (bytes_eq word (codes "push")) (λ t. push ((bytes_eq-Decides word (codes "push")).0 t)),
  false_from_ne_true (bytes_eq word (codes "ask")) (λ t. ask ((bytes_eq-Decides word (codes "ask")).0 t)),
  false_from_ne_true (bytes_eq word (codes "line")) (λ t. line ((bytes_eq-Decides word (codes "line")).0 t)),
) refl

pub returns-in_default : goal.returns-in_default
returns-in_default c =
    rw (c.in_ok-word.ensures, other_word _ _ _ c.in_default.not-push c.in_default.not-ask c.in_default.not-line) c.numbered_step_in.ensures
