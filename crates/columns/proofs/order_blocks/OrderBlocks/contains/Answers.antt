use Rattle.std.proofs.Common.{◌∙◌, is_some, ap}
use Rattle.std.specs.FinMap.Entries.{is_some-find}
use Rattle.semantics.specs.Ids.{id_cmp}
use Rattle.columns.specs.Orders.{Order}
use Rattle.semantics.specs.Context.{has_item}
use Rattle.columns.proofs.order_blocks.OrderBlocks.contains.Goals as goal

pub returns : goal.returns
returns c =
    let d = c.self.inside in
    c.is_some.ensures
    ∙ ap is_some c.get.ensures
    ∙ is_some-find id_cmp c.args.id.now d.homes.entries
    ∙ c.self.invariant.0.at_home.only c.args.id.now
    ∙ ap (λ (o : Order). has_item c.args.id.now o.items) c.self.view_is
