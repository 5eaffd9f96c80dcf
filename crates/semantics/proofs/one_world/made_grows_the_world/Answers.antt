use Rattle.semantics.proofs.Settled.{made_grows_world}
use Rattle.semantics.proofs.one_world.made_grows_the_world.Goals as goal

pub returns : goal.returns
returns c = made_grows_world
