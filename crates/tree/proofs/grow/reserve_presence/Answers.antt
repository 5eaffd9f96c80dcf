use Rattle.std.proofs.Common.{◌<◌, refl, sym, subst, arith, OnOk}
use Rattle.tree.specs.declared.node.Node.{Node}
use Rattle.tree.specs.Nodes.{presence_room}
use Rattle.tree.proofs.ListReads.{get_same}
use Rattle.tree.proofs.Widened.{kept_set}
use Rattle.tree.proofs.grow.reserve_presence.Goals as goal

pub returns-clause-kept : goal.returns-clause-kept
returns-clause-kept c =
    let ns = c.args.nodes.now.items in
    let n : Node = c.node_in_vec-node.result.now in
    let m : Node = record n { presence = c.reserve_one.new.self } in
    kept_set ns c.args.at n m c.node_in_vec-node.ensures.node c.requires.tree (record {
      children = (refl, refl);
      presence = (c.reserve_one.ensures.entries, c.reserve_one.ensures.indices, c.reserve_one.ensures.kept);
      register = (refl, refl, omega arith);
      order = (refl, refl, omega arith);
      empty_below = refl;
      flags = refl;
      written = refl;
    })

pub returns-clause-room : goal.returns-clause-room
returns-clause-room c =
    let n : Node = c.node_in_vec-node.result.now in
    let m : Node = record n { presence = c.reserve_one.new.self } in
    subst (λ o. OnOk c.reserve_one.result (0 < presence_room o))
    (sym (get_same c.args.nodes.now.items c.args.at m c.requires.inside)) c.reserve_one.ensures.room
