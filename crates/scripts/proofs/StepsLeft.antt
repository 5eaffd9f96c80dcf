-- The remaining steps of a script, line by line.
use Rattle.std.proofs.Common.{◌≡◌, ◌≢◌, ℕ, ◌+◌, List, [], ◌∷◌, ◌++◌, Result, Ok, Err, refl, append_assoc}
use Rattle.ids.specs.Configurations.{Configuration}
use Rattle.ids.specs.declared.refusal.Refusal.{Refusal}
use Rattle.ids.specs.declared.refusal.Refusal.TheVariants.{BadLine}
use Rattle.semantics.specs.World.{WorldStep}
use Rattle.world.specs.wire.Lines.{Bad, HasNoEnd, IsFirstLine, unless_bad}
use Rattle.requests.specs.declared.edition.Edition.{Edition}
use Rattle.scripts.specs.Steps.{step_line}
use Rattle.scripts.specs.Engines.{edition_of, engines_line}
use Rattle.scripts.specs.Scripts.{script_form, steps_left}
use Rattle.world.proofs.wire.CutLines.{cut-first_line, cut-no_end}

-- these steps, and then those
abbrev pub after : List WorldStep → Result (List WorldStep) Bad → Result (List WorldStep) Bad
after steps = unless_bad (λ ss. Ok (steps ++ ss))

after-one : (steps : List WorldStep) (s : WorldStep) (r : Result (List WorldStep) Bad)
    → after steps (unless_bad (λ ss. Ok (s ∷ ss)) r) ≡ after (steps ++ s ∷ []) r
after-one steps s (Ok ss) = simp append_assoc
after-one steps s (Err bad) = refl

-- a line that is a step
pub after-step : (edition : Edition) (engines : List Configuration) (taken : ℕ) (text line rest : List ℕ) (steps : List WorldStep)
    (s : WorldStep)
    → IsFirstLine text line rest → step_line edition engines line ≡ Ok s
    → after steps (steps_left edition engines taken text) ≡ after (steps ++ s ∷ []) (steps_left edition engines (taken + 1) rest)
after-step edition engines taken text line rest steps s first e =
    rw (cut-first_line text line rest first, e) (after-one steps s (steps_left edition engines (taken + 1) rest))

-- a line that isn't
pub after-bad : (edition : Edition) (engines : List Configuration) (taken : ℕ) (text line rest : List ℕ) (steps : List WorldStep)
    (why : Refusal)
    → IsFirstLine text line rest → step_line edition engines line ≡ Err why
    → after steps (steps_left edition engines taken text) ≡ Err (taken + 1, why)
after-bad edition engines taken text line rest steps why first e = rw (cut-first_line text line rest first, e) refl

-- bytes without a line feed at the end
pub after-cut : (edition : Edition) (engines : List Configuration) (taken : ℕ) (text : List ℕ) (steps : List WorldStep)
    → HasNoEnd text → text ≢ [] → after steps (steps_left edition engines taken text) ≡ Err (taken + 1, BadLine)
after-cut edition engines taken [] steps h some = absurd (some refl)
after-cut edition engines taken (b ∷ text) steps h some = rw (cut-no_end (b ∷ text) h) refl

-- a script whose first line is engines
pub script_form-engines : (text line rest : List ℕ) (gs : List Configuration) → IsFirstLine text line rest → engines_line line ≡ Ok gs
    → script_form text ≡ unless_bad (λ ss. Ok (gs, ss)) (steps_left (edition_of line) gs 1 rest)
script_form-engines text line rest gs first e = rw (cut-first_line text line rest first, e) refl

-- one whose first line isn't
pub script_form-bad : (text line rest : List ℕ) (why : Refusal) → IsFirstLine text line rest → engines_line line ≡ Err why
    → script_form text ≡ Err (1, why)
script_form-bad text line rest why first e = rw (cut-first_line text line rest first, e) refl

-- one without a first line
pub script_form-none : (text : List ℕ) → HasNoEnd text → script_form text ≡ Err (1, BadLine)
script_form-none text h = rw (cut-no_end text h) refl
