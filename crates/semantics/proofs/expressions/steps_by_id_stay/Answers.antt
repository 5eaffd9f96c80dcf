use Rattle.semantics.proofs.LastingSteps.{steps_stay}
use Rattle.semantics.proofs.expressions.steps_by_id_stay.Goals as goal

pub returns : goal.returns
returns c = steps_stay
