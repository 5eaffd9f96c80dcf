use Rattle.std.proofs.Common.{sym, ◌∙◌}
use Rattle.semantics.specs.Elements.{Item}
use Rattle.semantics.specs.Paths.{ItemHop}
use Rattle.tree.proofs.Shape.{number_child}
use Rattle.tree.proofs.Showing.{but_lost}
use Rattle.tree.proofs.show.show_entry.Goals as goal

pub returns-in_err-item-clause-shown : goal.returns-in_err-item-clause-shown
returns-in_err-item-clause-shown c = λ e off at s.
    let ns = c.args.nodes.now in
    but_lost ns (Item e c.args.id.now) off
    (number_child ns e c.args.at (ItemHop c.args.id.now) at ∙ sym c.item_of.ensures ∙ c.in_err-item.was) s
