use Rattle.std.proofs.Common.{refl, subst}
use Rattle.semantics.specs.Publication.{Publication}
use Rattle.semantics.specs.WorldHistory.{BeginsWith}
use Rattle.replica.specs.oplog.Logs.{history}
use Rattle.world.proofs.publisher.Publisher.published.Goals as goal

pub returns-clause-begins : goal.returns-clause-begins
returns-clause-begins c =
    let p = c.self.inside in
    subst (λ (z : Publication). BeginsWith z.appended z.published) c.self.view_is (history p.pending.items, refl)
