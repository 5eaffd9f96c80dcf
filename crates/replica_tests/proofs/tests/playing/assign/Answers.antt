use Rattle.std.proofs.Common.{ap}
use Rattle.semantics.specs.Replica.{Replica}
use Rattle.replica.specs.Replicas.{replica_of}
use Rattle.replica_tests.proofs.KeptSerials.{own_above}
use Rattle.replica_tests.proofs.tests.playing.assign.Goals as goal

pub returns-clause-ok : goal.returns-clause-ok
returns-clause-ok g c = own_above 0 c.args.serial _ _ c.args.replica.now.document.entries (replica_of c.make.new.self)
    (replica_of c.commit_own.new.self) (ap (λ (r : Replica). r.entries) c.make.ensures.same) c.commit_own.ensures c.requires
