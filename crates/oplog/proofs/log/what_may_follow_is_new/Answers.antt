use Rattle.semantics.proofs.AbsentIds.{fresh}
use Rattle.oplog.proofs.log.what_may_follow_is_new.Goals as goal

pub returns : goal.returns
returns c G s may = fresh may.follows
