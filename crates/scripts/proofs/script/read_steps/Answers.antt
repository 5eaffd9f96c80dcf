use Rattle.std.proofs.Common.{◌≡◌, ◌≢◌, ◌+◌, ◌++◌, [], ◌∷◌, List, map, inl, inr, sym, ap, ◌∙◌}
use Rattle.std.proofs.lemmas.List.{map-append}
use Rattle.ids.specs.declared.refusal.Refusal.TheVariants.{BadLine}
use Rattle.semantics.specs.World.{WorldStep as TheStep}
use Rattle.world.specs.declared.step.WorldStep.{WorldStep}
use Rattle.world.specs.Acts.{step_of}
use Rattle.scripts.specs.Errors.{error_of}
use Rattle.scripts.specs.Scripts.{steps_left}
use Rattle.scripts.proofs.StepsLeft.{after, after-step, after-bad, after-cut}
use Rattle.world.proofs.wire.OrNoMemory.{IsOrNoMemory-Err}
use Rattle.scripts.proofs.script.read_steps.Goals as goal

pub loop-line-preserved : goal.loop-line-preserved
loop-line-preserved c =
    let old : List WorldStep = c.loop-line.steps.items in
    let x = c.in-Ok.step in
    let engines = c.args.engines.now in
    let step = after-step c.args.edition engines c.loop-line.lines.taken _ _ _ (map step_of old)
    (step_of x) c.in-Some.ensures.line c.in-Ok.ensures in
    let more : map step_of (old ++ x ∷ [])
    ≡ map step_of old ++ step_of x ∷ [] = map-append step_of old (x ∷ []) in
    record {
      left = rw (c.in_ok-push-in-Ok.ensures.items, c.in-Some.ensures.number.1, c.in-Some.ensures.number.0)
          (ap (λ (ss : List TheStep). after ss
          (steps_left c.args.edition engines (c.loop-line.lines.taken + 1) c.take_line.new.self.rest.now)) more
          ∙ sym step ∙ c.loop-line.invariant.left);
    }

pub returns-in-Err : goal.returns-in-Err
returns-in-Err c =
    let ss = map step_of c.loop-line.steps.items in
    elim (IsOrNoMemory-Err _ _ c.in-Err.ensures) [
      | inl e ↦ inl (c.of_line.ensures ∙ ap (error_of c.in-Some.line.number) e)
      | inr e ↦ inr (
        (c.loop-line.lines.taken + 1, c.in-Err.why),
        sym c.loop-line.invariant.left
            ∙ after-bad c.args.edition c.args.engines.now c.loop-line.lines.taken _ _ _ ss c.in-Err.why c.in-Some.ensures.line e,
        rw (← c.in-Some.ensures.number.0) c.of_line.ensures,
      )
    ]

pub returns-in-Some-cut_line : goal.returns-in-Some-cut_line
returns-in-Some-cut_line c =
    let ss = map step_of c.loop-line.steps.items in
    let some : c.loop-line.lines.rest.now ≢ [] = rw c.in_default.ensures.none.1 at c.in-Some-cut_line.ensures.1 in
    inr (
      (c.loop-line.lines.taken + 1, BadLine),
      sym c.loop-line.invariant.left
          ∙ after-cut c.args.edition c.args.engines.now c.loop-line.lines.taken _ ss c.in_default.ensures.none.0 some,
      rw (← c.in_default.ensures.none.2, ← c.in-Some-cut_line.ensures.0) c.of_line-in-Some-cut_line.ensures,
    )
