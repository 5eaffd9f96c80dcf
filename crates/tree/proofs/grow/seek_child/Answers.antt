use Rattle.std.proofs.Common.{refl}
use Rattle.tree.specs.declared.node.Node.{Node}
use Rattle.tree.proofs.Widened.{kept_set, wider_children, wider_links}
use Rattle.tree.proofs.grow.seek_child.Goals as goal

pub returns-in-Field-clause-kept : goal.returns-in-Field-clause-kept
returns-in-Field-clause-kept c =
    let n : Node = c.node_in_vec-node.result.now in
    let m : Node = record n { fields = c.seek.new.self } in
    kept_set c.args.nodes.now.items c.args.at n m c.node_in_vec-node.ensures.node c.requires.tree
    (wider_children n m.fields m.items c.seek.ensures.entries c.seek.ensures.flags refl)

pub returns-in-Field-clause-shape : goal.returns-in-Field-clause-shape
returns-in-Field-clause-shape c =
    let n : Node = c.node_in_vec-node.result.now in
    let m : Node = record n { fields = c.seek.new.self } in
    wider_links c.args.nodes.now.items c.args.at n m c.node_in_vec-node.ensures.node
    (wider_children n m.fields m.items c.seek.ensures.entries c.seek.ensures.flags refl)

pub returns-in-Item-clause-kept : goal.returns-in-Item-clause-kept
returns-in-Item-clause-kept c =
    let n : Node = c.node_in_vec-node.result.now in
    kept_set c.args.nodes.now.items c.args.at n n c.node_in_vec-node.ensures.node c.requires.tree
    (wider_children n n.fields n.items refl refl refl)

pub returns-in-Item-clause-shape : goal.returns-in-Item-clause-shape
returns-in-Item-clause-shape c =
    let n : Node = c.node_in_vec-node.result.now in
    wider_links c.args.nodes.now.items c.args.at n n c.node_in_vec-node.ensures.node (wider_children n n.fields n.items refl refl refl)
