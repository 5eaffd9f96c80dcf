use Rattle.std.proofs.Common.{refl, ◌∙◌}
use Rattle.tree.specs.declared.node.Node.{Node}
use Rattle.tree.proofs.Contexts.{context_set, linked_with}
use Rattle.tree.proofs.insert.link_order.Goals as goal

pub returns-clause-linked : goal.returns-clause-linked
returns-clause-linked c = λ e at.
    let ns = c.args.nodes.now in
    let n : Node = c.node_at_mut-node.result.now in
    let m : Node = record n { order = c.insert_after.new.self } in
    let g = c.node_at_mut-node.ensures.node in
    context_set ns c.requires.tree e c.args.at n m at g refl refl
    ∙ linked_with ns e c.args.at n m c.args.prev c.args.id.now at g refl refl c.insert_after.ensures.items
