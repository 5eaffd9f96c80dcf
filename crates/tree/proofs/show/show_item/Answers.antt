use Rattle.std.proofs.Common.{refl, arith}
use Rattle.semantics.specs.Paths.{ItemHop}
use Rattle.tree.specs.declared.node.Node.{Node}
use Rattle.tree.proofs.NodeWrites.{room_set}
use Rattle.tree.proofs.Showing.{flag_same, flag_set, empty_below_lower, lower}
use Rattle.tree.proofs.show.show_item.Goals as goal

pub is_present-shown-requires : goal.is_present-shown-requires
is_present-shown-requires c = (c.requires.tree.rising c.args.at (ItemHop c.args.id.now) c.args.item c.requires.item).1

pub returns-clause-same : goal.returns-clause-same
returns-clause-same c =
    let n : Node = c.node_at_mut-node.result.now in
    let m : Node = record n { order = c.set_shown.new.self; empty_below = c.empty_below_with-node.result } in
    flag_same c.args.nodes.now c.requires.tree c.args.at n m c.node_at_mut-node.ensures.node refl c.set_shown.ensures.items refl refl refl

pub returns-clause-shown : goal.returns-clause-shown
returns-clause-shown c = λ e off at s.
    let ns = c.args.nodes.now in
    let n : Node = c.node_at_mut-node.result.now in
    let m : Node = record n { order = c.set_shown.new.self; empty_below = c.empty_below_with-node.result } in
    let g = c.node_at_mut-node.ensures.node in
    let same = flag_same ns c.requires.tree c.args.at n m g refl c.set_shown.ensures.items refl refl refl in
    let le = lower c.is_present-shown.result n.empty_below c.args.id.now.counter m.empty_below c.empty_below_with-node.ensures in
    flag_set ns c.requires.tree c.args.at n m g refl c.set_shown.ensures.items e at c.args.id.now c.args.item c.requires.item
    c.is_present-shown.result c.is_present-shown.ensures refl same le.0 le.1 c.set_shown.ensures.visible off s

pub returns-clause-empty : goal.returns-clause-empty
returns-clause-empty c = λ e at empty.
    let ns = c.args.nodes.now in
    let n : Node = c.node_at_mut-node.result.now in
    let m : Node = record n { order = c.set_shown.new.self; empty_below = c.empty_below_with-node.result } in
    let g = c.node_at_mut-node.ensures.node in
    let same = flag_same ns c.requires.tree c.args.at n m g refl c.set_shown.ensures.items refl refl refl in
    let le = lower c.is_present-shown.result n.empty_below c.args.id.now.counter m.empty_below c.empty_below_with-node.ensures in
    empty_below_lower ns c.requires.tree c.args.at n m g refl c.set_shown.ensures.items refl same e at le.0 empty

pub returns-clause-room : goal.returns-clause-room
returns-clause-room c =
    let n : Node = c.node_at_mut-node.result.now in
    let m : Node = record n { order = c.set_shown.new.self; empty_below = c.empty_below_with-node.result } in
    room_set c.args.nodes.now c.args.at n m c.node_at_mut-node.ensures.node (omega arith) (omega arith)
