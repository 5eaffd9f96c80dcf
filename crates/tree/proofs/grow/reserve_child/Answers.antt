use Rattle.std.proofs.Common.{◌<◌, refl, sym, subst, OnOk, set}
use Rattle.std.specs.Prelude.{slice_get}
use Rattle.semantics.specs.Paths.{FieldHop, ItemHop}
use Rattle.operation.specs.cursor.Steps.{hop_of}
use Rattle.tree.specs.declared.node.Node.{Node}
use Rattle.tree.specs.Nodes.{child_room}
use Rattle.tree.proofs.ListReads.{get_same}
use Rattle.tree.proofs.Widened.{kept_set, wider_children, wider_links}
use Rattle.tree.proofs.grow.reserve_child.Goals as goal

pub returns-in-Field-clause-kept : goal.returns-in-Field-clause-kept
returns-in-Field-clause-kept c =
    let n : Node = c.node_in_vec-node.result.now in
    let m : Node = record n { fields = c.reserve_one.new.self } in
    kept_set c.args.nodes.now.items c.args.at n m c.node_in_vec-node.ensures.node c.requires.tree
    (wider_children n m.fields m.items c.reserve_one.ensures.same c.reserve_one.ensures.flags refl)

pub returns-in-Field-clause-shape : goal.returns-in-Field-clause-shape
returns-in-Field-clause-shape c =
    let n : Node = c.node_in_vec-node.result.now in
    let m : Node = record n { fields = c.reserve_one.new.self } in
    wider_links c.args.nodes.now.items c.args.at n m c.node_in_vec-node.ensures.node
    (wider_children n m.fields m.items c.reserve_one.ensures.same c.reserve_one.ensures.flags refl)

pub returns-in-Field-clause-room : goal.returns-in-Field-clause-room
returns-in-Field-clause-room c =
    let ns = c.args.nodes.now.items in
    let n : Node = c.node_in_vec-node.result.now in
    let m : Node = record n { fields = c.reserve_one.new.self } in
    subst (λ h. OnOk c.reserve_one.result (0 < child_room (slice_get (set ns c.args.at m) c.args.at) (hop_of h))) (sym c.in-Field.is)
    (subst (λ o. OnOk c.reserve_one.result (0 < child_room o (FieldHop c.in-Field.field-0)))
    (sym (get_same ns c.args.at m c.requires.inside)) c.reserve_one.ensures.room)

pub returns-in-Item-clause-kept : goal.returns-in-Item-clause-kept
returns-in-Item-clause-kept c =
    let n : Node = c.node_in_vec-node.result.now in
    let m : Node = record n { items = c.reserve_one-in-Item.new.self } in
    kept_set c.args.nodes.now.items c.args.at n m c.node_in_vec-node.ensures.node c.requires.tree
    (wider_children n m.fields m.items refl refl c.reserve_one-in-Item.ensures.same)

pub returns-in-Item-clause-shape : goal.returns-in-Item-clause-shape
returns-in-Item-clause-shape c =
    let n : Node = c.node_in_vec-node.result.now in
    let m : Node = record n { items = c.reserve_one-in-Item.new.self } in
    wider_links c.args.nodes.now.items c.args.at n m c.node_in_vec-node.ensures.node
    (wider_children n m.fields m.items refl refl c.reserve_one-in-Item.ensures.same)

pub returns-in-Item-clause-room : goal.returns-in-Item-clause-room
returns-in-Item-clause-room c =
    let ns = c.args.nodes.now.items in
    let n : Node = c.node_in_vec-node.result.now in
    let m : Node = record n { items = c.reserve_one-in-Item.new.self } in
    subst (λ h. OnOk c.reserve_one-in-Item.result (0 < child_room (slice_get (set ns c.args.at m) c.args.at) (hop_of h))) (sym c.in-Item.is)
    (subst (λ o. OnOk c.reserve_one-in-Item.result (0 < child_room o (ItemHop c.in-Item.field-0)))
    (sym (get_same ns c.args.at m c.requires.inside)) c.reserve_one-in-Item.ensures.room)
