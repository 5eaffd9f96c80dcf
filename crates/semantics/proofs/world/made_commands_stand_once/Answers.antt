use Rattle.semantics.proofs.SoundWorlds.{sound_engine}
use Rattle.semantics.proofs.WorldReplies.{made_once}
use Rattle.semantics.proofs.world.made_commands_stand_once.Goals as goal

pub returns : goal.returns
returns c cs steps e E h = made_once E (sound_engine cs steps e E h)
