use Rattle.semantics.proofs.GlancesBeneath.{rows_joined}
use Rattle.semantics.proofs.glances.glances_hold_those_beneath.Goals as goal

pub returns : goal.returns
returns c = rows_joined
