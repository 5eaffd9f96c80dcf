-- What is left decides, after the steps so far.
use Rattle.std.proofs.Common.{◌≡◌, ◌++◌, map, length, Ok}
use Rattle.world.specs.Acts.{step_of}
use Rattle.world.specs.wire.Lines.{unless_bad}
use Rattle.scripts.specs.Scripts.{steps_left}
use Rattle.scripts.proofs.script.read_steps.Given as goal

abbrev pub decreases-loop-line : goal.decreases-loop-line
decreases-loop-line l = length l.lines.rest.now

abbrev pub invariant-loop-line : goal.invariant-loop-line
invariant-loop-line l = record {
  left : unless_bad (λ ss. Ok (map step_of l.steps.items ++ ss))
      (steps_left l.edition l.engines l.lines.taken l.lines.rest.now)
      ≡ steps_left l.edition l.engines l.fn.lines.taken l.fn.lines.rest.now;
}
