use Rattle.std.proofs.Common.{refl, subst}
use Rattle.columns.specs.Keys.{Keys}
use Rattle.columns.proofs.ShortKeys.{AreShort, stands_for}
use Rattle.columns.proofs.sorted_keys.SortedKeys.short_at.Goals as goal

pub returns : goal.returns
returns c =
    let keys = c.args.self.now in
    let order = c.self.inside.order.items in
    let are : AreShort keys.keys keys.numbers order = subst (λ (m : Keys). AreShort m.keys m.numbers order) c.self.view_is
    (record { are_numbers = refl; are_prefixes = c.self.invariant.1 }) in
    stands_for keys.keys keys.numbers order c.args.position c.get.result.now are c.requires c.get.ensures
