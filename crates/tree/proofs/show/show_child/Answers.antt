use Rattle.std.proofs.Common.{ℕ, Some, ap, sym, ◌∙◌, subst, ◌||◌}
use Rattle.semantics.specs.Ids.{OpId}
use Rattle.semantics.specs.Elements.{Item, is_same}
use Rattle.tree.specs.Shown.{ShownBut}
use Rattle.tree.proofs.Links.{item_entry, item_number}
use Rattle.tree.proofs.show.show_child.Goals as goal

pub show_item-requires-clause-item : goal.show_item-requires-clause-item
show_item-requires-clause-item c =
    item_number c.args.nodes.now c.requires.tree c.args.at c.args.position c.node_at.result.now c.at-id.result c.node_at.ensures
    c.at-id.ensures c.requires.within
    ∙ ap Some (sym c.new-item.ensures)

pub returns-clause-shown : goal.returns-clause-shown
returns-clause-shown c = λ e off d at s.
    let ns = c.args.nodes.now in
    let entry = item_entry ns c.args.at c.args.position c.node_at.result.now c.at-id.result c.node_at.ensures c.at-id.ensures d in
    c.show_item.ensures.shown e off at (subst (λ (x : OpId × ℕ). ShownBut ns (λ y. is_same y (Item e x.0) || off y)) entry s)
