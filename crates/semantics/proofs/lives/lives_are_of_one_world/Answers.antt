use Rattle.semantics.proofs.LivedWorlds.{lived, one_world}
use Rattle.semantics.proofs.lives.lives_are_of_one_world.Goals as goal

pub returns-clause-histories : goal.returns-clause-histories
returns-clause-histories c members L h p = let k = (lived members L h).2 p in (k.own, k.running)

pub returns-clause-one_world : goal.returns-clause-one_world
returns-clause-one_world c = one_world
