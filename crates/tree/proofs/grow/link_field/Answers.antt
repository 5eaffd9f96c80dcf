use Rattle.std.proofs.Common.{refl}
use Rattle.semantics.specs.Paths.{FieldHop}
use Rattle.tree.specs.declared.node.Node.{Node}
use Rattle.tree.proofs.Linked.{OnlyLinks, linked_kept}
use Rattle.tree.proofs.LinkedChildren.{field_linked, linked_field}
use Rattle.tree.proofs.grow.link_field.Goals as goal

pub returns-clause-kept : goal.returns-clause-kept
returns-clause-kept c =
    let ns = c.args.nodes.now.items in
    let n : Node = c.node_in_vec-node.result.now in
    let m : Node = record n { fields = c.put.new.self } in
    let there = c.node_in_vec-node.ensures.node in
    let only : OnlyLinks n m = record { presence = refl; register = refl; order = refl; empty_below = refl; written = refl } in
    linked_kept c.args.at (FieldHop c.args.key) c.args.number ns n m there only
    (linked_field ns c.args.at n m c.args.number there c.args.key (rw c.index.ensures at c.put.ensures.entries) only c.requires.tree
    c.requires.orphan c.requires.absent refl c.put.ensures.flags c.put.ensures.unflagged)
    c.requires.tree c.requires.above c.requires.orphan

pub returns-clause-child : goal.returns-clause-child
returns-clause-child c =
    let n : Node = c.node_in_vec-node.result.now in
    field_linked c.args.nodes.now.items c.args.at n (record n { fields = c.put.new.self }) c.args.number c.node_in_vec-node.ensures.node
    c.args.key (rw c.index.ensures at c.put.ensures.entries)
