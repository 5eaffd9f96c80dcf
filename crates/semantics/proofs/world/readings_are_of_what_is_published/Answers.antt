use Rattle.semantics.proofs.SoundWorlds.{sound_engine}
use Rattle.semantics.proofs.WorldReplies.{reading_published, reading_viewed}
use Rattle.semantics.proofs.world.readings_are_of_what_is_published.Goals as goal

pub returns-clause-reading : goal.returns-clause-reading
returns-clause-reading c cs steps e E h = reading_published E (sound_engine cs steps e E h)

pub returns-clause-view : goal.returns-clause-view
returns-clause-view c cs steps e E h = reading_viewed E (sound_engine cs steps e E h)
