use Rattle.semantics.proofs.SoundWorlds.{only_grow}
use Rattle.semantics.proofs.world.worlds_only_grow.Goals as goal

pub returns : goal.returns
returns c = only_grow
