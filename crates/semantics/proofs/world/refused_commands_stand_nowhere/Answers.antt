use Rattle.semantics.proofs.SoundWorlds.{sound_engine}
use Rattle.semantics.proofs.RepliedEntries.{replied_engine}
use Rattle.semantics.proofs.OneReply.{one_reply, entry_submitted, refused_nowhere}
use Rattle.semantics.proofs.world.refused_commands_stand_nowhere.Goals as goal

pub returns-clause-made : goal.returns-clause-made
returns-clause-made k cs steps e E h m c serial = entry_submitted E (sound_engine cs steps e E h) c serial (replied_engine cs steps e E h) m

pub returns-clause-once : goal.returns-clause-once
returns-clause-once k cs steps e E h = one_reply E (sound_engine cs steps e E h)

pub returns-clause-refused : goal.returns-clause-refused
returns-clause-refused k cs steps e E h c serial = refused_nowhere E (sound_engine cs steps e E h) c serial (replied_engine cs steps e E h)
