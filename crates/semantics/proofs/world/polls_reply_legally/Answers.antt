use Rattle.semantics.proofs.SoundWorlds.{sound_engine}
use Rattle.semantics.proofs.WorldReplies.{poll_legal}
use Rattle.semantics.proofs.world.polls_reply_legally.Goals as goal

pub returns : goal.returns
returns c cs steps e E h = poll_legal E (sound_engine cs steps e E h)
