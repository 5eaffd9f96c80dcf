use Rattle.std.proofs.Common.{rules, of_calls, nat_le}
use Rattle.std.proofs.lemmas.Fn.{always_returns_same}
use Rattle.columns.proofs.Counters.{bound_parts, dropped}
use Rattle.columns.proofs.rising_counters.count_up_to.Goals as goal

pub returns-clause-behind : goal.returns-clause-behind
returns-clause-behind c =
    let ks = c.args.counters.now in
    let point = c.partition_point.ensures.partitioned (λ k. nat_le k c.args.bound)
    (always_returns_same _ _ _ (λ a r f k. search (rules, of_calls))) (bound_parts c.args.bound ks c.requires) in
    dropped c.args.bound ks c.partition_point.result point.0 point.1 c.partition_point.ensures.bound
