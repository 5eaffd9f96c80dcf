use Rattle.std.proofs.Common.{refl}
use Rattle.replica.specs.oplog.Logs.{history}
use Rattle.world.proofs.publisher.Publisher.publish.Goals as goal

pub returns-clause-begins : goal.returns-clause-begins
returns-clause-begins c =
    (history c.publish_all.new.pending.items, refl)
