use Rattle.semantics.proofs.OneOperation.{one_stamped}
use Rattle.semantics.proofs.one_world.ids_are_of_one_operation.Goals as goal

pub returns : goal.returns
returns c = one_stamped
