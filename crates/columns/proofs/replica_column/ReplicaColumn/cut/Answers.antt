use Rattle.std.proofs.Common.{◌∙◌, ap, nat_lt}
use Rattle.std.specs.List.{filter}
use Rattle.columns.proofs.replica_column.ReplicaColumn.cut.Goals as goal

pub returns-clause-counters : goal.returns-clause-counters
returns-clause-counters c = c.cut.ensures.counters ∙ ap (λ b. filter (λ k. nat_lt b k) c.args.self.now.counters.items) c.get.ensures
