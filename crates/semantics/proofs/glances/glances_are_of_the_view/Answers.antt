use Rattle.semantics.proofs.GlancesBeneath.{glance_is_view}
use Rattle.semantics.proofs.glances.glances_are_of_the_view.Goals as goal

pub returns : goal.returns
returns c = glance_is_view
