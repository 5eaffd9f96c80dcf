use Rattle.semantics.proofs.EnginesOfOneWorld.{histories_of_one_world}
use Rattle.semantics.proofs.world_exchange.histories_are_of_one_world.Goals as goal

pub returns : goal.returns
returns c = histories_of_one_world
