use Rattle.operation.specs.Ops.{stamped_of}
use Rattle.replica.specs.Replicas.{replica_of}
use Rattle.replica_tests.proofs.KeptSerials.{delivered_entries}
use Rattle.replica_tests.proofs.tests.playing.deliver.Goals as goal

pub returns : goal.returns
returns g c = delivered_entries c.deliver-answer.result (replica_of c.args.replica.now) (replica_of c.deliver-answer.new.self)
    (stamped_of c.args.op) c.deliver-answer.ensures.delivered c.deliver-answer.ensures.same
