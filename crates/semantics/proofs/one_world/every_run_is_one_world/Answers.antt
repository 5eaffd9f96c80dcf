use Rattle.semantics.proofs.ReachedWorlds.{one_world}
use Rattle.semantics.proofs.one_world.every_run_is_one_world.Goals as goal

pub returns : goal.returns
returns c = one_world
