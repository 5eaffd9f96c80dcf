use Rattle.semantics.proofs.OutsideRules.{nothing_changes, floors_exactly}
use Rattle.semantics.proofs.handling.refused_items_change_nothing.Goals as goal

pub returns-clause-same : goal.returns-clause-same
returns-clause-same c = nothing_changes

pub returns-clause-floor : goal.returns-clause-floor
returns-clause-floor c = floors_exactly
