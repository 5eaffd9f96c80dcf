use Rattle.std.proofs.Common.{◌≡◌, ◌⊎◌, List, false, Result, Err, inl, inr, refl, ap, ◌∙◌}
use Rattle.std.specs.List.{list_all}
use Rattle.ids.specs.Configurations.{Configuration, is_within_limits}
use Rattle.ids.specs.declared.refusal.Refusal.{Refusal}
use Rattle.ids.specs.declared.refusal.Refusal.TheVariants.{NoMemory, BadConfig}
use Rattle.semantics.specs.World.{WorldStep}
use Rattle.scripts.specs.declared.error.ScriptError.{ScriptError}
use Rattle.scripts.specs.Engines.{if_within_limits}
use Rattle.scripts.specs.Errors.{IsErrorOf, error_of}
use Rattle.world.specs.wire.Lines.{Bad, on_line, unless_bad}
use Rattle.scripts.specs.Scripts.{steps_left}
use Rattle.scripts.proofs.script.open.Goals as goal

-- a refused world is a bad first line, or a failed allocation
refused : (gs : List Configuration) (why : Refusal) (f : ScriptError) (next : List Configuration → Result (List WorldStep) Bad)
    → (why ≡ BadConfig) ⊎ (why ≡ NoMemory) → (why ≡ BadConfig → list_all is_within_limits gs ≡ false) → f ≡ error_of 1 why
    → IsErrorOf (unless_bad next (on_line 1 (if_within_limits gs))) f
refused gs why f next (inl bad) limits e = inr ((1, BadConfig), rw (limits bad) refl, e ∙ ap (error_of 1) bad)
refused gs why f next (inr none) limits e = inl (e ∙ ap (error_of 1) none)

pub returns-in-Err-clause-err : goal.returns-in-Err-clause-err
returns-in-Err-clause-err c =
    refused c.args.engines.now c.in-Err.why c.of_line.result
    (λ gs. steps_left c.args.edition gs c.args.lines.now.taken c.args.lines.now.rest.now) c.in-Err.ensures.err
    (λ bad. c.new.ensures.bad_config.0 (c.in-Err.is ∙ ap Err bad))
    c.of_line.ensures
