use Rattle.std.proofs.Common.{inl, inr, subst}
use Rattle.semantics.specs.Engine.{Engine}
use Rattle.world.specs.Parts.{PublishesInPart}
use Rattle.world.proofs.Results.{on_err}
use Rattle.world.proofs.engine.Engine.step.Goals as goal

pub returns-in_err-take_all-clause-stopped : goal.returns-in_err-take_all-clause-stopped
returns-in_err-take_all-clause-stopped c = on_err c.from_residual.result (inl c.in_err-take_all.ensures.stopped)

pub returns-in_err-publish-clause-stopped : goal.returns-in_err-publish-clause-stopped
returns-in_err-publish-clause-stopped c =
    on_err c.from_residual-in_err-publish.result
    (inr (subst
    (λ (E : Engine). PublishesInPart E c.publish.new.self) c.in_ok-take_all.ensures.engine c.in_err-publish.ensures.stopped))
