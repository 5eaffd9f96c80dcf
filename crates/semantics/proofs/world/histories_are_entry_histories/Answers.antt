use Rattle.semantics.proofs.SoundWorlds.{sound_engine}
use Rattle.semantics.proofs.SoundSeeing.{seen_within}
use Rattle.semantics.proofs.world.histories_are_entry_histories.Goals as goal

pub returns-clause-history : goal.returns-clause-history
returns-clause-history c cs steps e E h = (sound_engine cs steps e E h).running.history

pub returns-clause-published : goal.returns-clause-published
returns-clause-published c cs steps e E h = (sound_engine cs steps e E h).published

pub returns-clause-seen : goal.returns-clause-seen
returns-clause-seen c cs steps e E h = seen_within E (sound_engine cs steps e E h)
