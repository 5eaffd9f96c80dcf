-- A whole script: engines and steps. The first bad line, by its number, decides.
use Rattle.std.specs.Prelude.{ℕ, ◌+◌, List, [], ◌∷◌, Result, Ok, Err}
use Rattle.ids.specs.Configurations.{Configuration}
use Rattle.ids.specs.declared.refusal.Refusal.TheVariants.{BadLine}
use Rattle.semantics.specs.World.{WorldStep}
use Rattle.world.specs.wire.Lines.{Bad, cut, on_line, unless_bad}
use Rattle.requests.specs.declared.edition.Edition.{Edition}
use Rattle.scripts.specs.Engines.{edition_of, engines_line}
use Rattle.scripts.specs.Steps.{step_line}

-- the steps on lines from this number on; bytes after the last line are a bad line
abbrev pub steps_from : Edition → List Configuration → ℕ → List (List ℕ) → List ℕ → Result (List WorldStep) Bad
steps_from edition engines number [] [] = Ok []
steps_from edition engines number [] (b ∷ tail) = Err (number, BadLine)
steps_from edition engines number (l ∷ ls) tail =
    unless_bad (λ s. unless_bad (λ ss. Ok (s ∷ ss)) (steps_from edition engines (number + 1) ls tail))
    (on_line number (step_line edition engines l))

-- the steps in the rest of a script, after this many lines
abbrev pub steps_left : Edition → List Configuration → ℕ → List ℕ → Result (List WorldStep) Bad
steps_left edition engines taken rest = steps_from edition engines (taken + 1) (cut rest).lines (cut rest).tail

-- the first line has the engines, and each line after it a step; if there is none, line 1 is bad
abbrev pub script_of : List (List ℕ) → List ℕ → Result (List Configuration × List WorldStep) Bad
script_of [] tail = Err (1, BadLine)
script_of (l ∷ ls) tail =
    unless_bad (λ gs. unless_bad (λ ss. Ok (gs, ss)) (steps_from (edition_of l) gs 2 ls tail)) (on_line 1 (engines_line l))

-- the engines and the steps of a script
abbrev pub script_form : List ℕ → Result (List Configuration × List WorldStep) Bad
script_form bytes = script_of (cut bytes).lines (cut bytes).tail
