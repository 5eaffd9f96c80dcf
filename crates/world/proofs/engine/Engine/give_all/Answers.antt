use Rattle.std.proofs.Common.{◌+◌, ◌-◌, ap, ◌∙◌}
use Rattle.semantics.specs.Engine.{Engine}
use Rattle.semantics.specs.WriteSteps.{give_for}
use Rattle.world.proofs.WholeSteps.{give_next}
use Rattle.world.proofs.engine.Engine.give_all.Goals as goal

pub loop-preserved : goal.loop-preserved
loop-preserved c =
    ap (λ (E : Engine). give_for (c.args.count - (c.loop.counter + 1)) E) c.give.ensures.engine
    ∙ give_next c.args.count c.loop.counter c.loop.self c.loop-test.true
    ∙ c.loop.invariant
