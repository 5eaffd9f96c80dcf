use Rattle.std.proofs.Common.{refl, arith}
use Rattle.tree.specs.declared.node.Node.{Node}
use Rattle.tree.proofs.NodeWrites.{room_set}
use Rattle.tree.proofs.Showing.{but_raised, flag_same, empty_below_raised}
use Rattle.tree.proofs.clear.set_empty_below.Goals as goal

pub returns-clause-same : goal.returns-clause-same
returns-clause-same c =
    let n : Node = c.node_at_mut-node.result.now in
    flag_same c.args.nodes.now c.requires.tree c.args.at n
    (record n { empty_below = c.args.empty_below }) c.node_at_mut-node.ensures.node refl refl refl
    refl refl

pub returns-clause-room : goal.returns-clause-room
returns-clause-room c =
    let n : Node = c.node_at_mut-node.result.now in
    room_set c.args.nodes.now c.args.at n (record n { empty_below = c.args.empty_below }) c.node_at_mut-node.ensures.node (omega arith)
    (omega arith)

pub returns-clause-empty : goal.returns-clause-empty
returns-clause-empty c = λ e at below empty.
    let ns = c.args.nodes.now in
    let n : Node = c.node_at_mut-node.result.now in
    let m : Node = record n { empty_below = c.args.empty_below } in
    let g = c.node_at_mut-node.ensures.node in
    empty_below_raised ns c.requires.tree c.args.at n m g refl refl refl
    (flag_same ns c.requires.tree c.args.at n m g refl refl refl refl refl)
    e at below empty

pub returns-clause-shown : goal.returns-clause-shown
returns-clause-shown c = λ e off at below s.
    let ns = c.args.nodes.now in
    let n : Node = c.node_at_mut-node.result.now in
    let m : Node = record n { empty_below = c.args.empty_below } in
    let g = c.node_at_mut-node.ensures.node in
    but_raised ns c.requires.tree c.args.at n m g refl refl refl refl
    (flag_same ns c.requires.tree c.args.at n m g refl refl refl refl refl) e at below off s
