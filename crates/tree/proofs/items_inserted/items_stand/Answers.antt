use Rattle.std.proofs.Common.{map, take, sym, ◌∙◌}
use Rattle.operation.specs.cursor.Steps.{hop_of}
use Rattle.tree.specs.Writes.{end_of}
use Rattle.tree.proofs.StandingItems.{falls, node_inside, stands_more}
use Rattle.tree.proofs.items_inserted.items_stand.Goals as goal

pub stands-requires : goal.stands-requires
stands-requires c = node_inside c.args.nodes.now c.requires
    (end_of (take c.loop-hop.hop-index (map hop_of c.args.path.now))) c.loop-hop.node c.loop-hop.invariant.node

pub returns-then-not-stands : goal.returns-then-not-stands
returns-then-not-stands c =
    sym (falls c.args.nodes.now c.args.path.now c.loop-hop.hop-index c.hop-item.result c.loop-hop-test.true c.hop-item.is c.loop-hop.node
    c.loop-hop.invariant
    (sym c.stands.ensures ∙ c.if-not-stands.true))

pub next_of-node-requires : goal.next_of-node-requires
next_of-node-requires c = node_inside c.args.nodes.now c.requires
    (end_of (take c.loop-hop.hop-index (map hop_of c.args.path.now))) c.loop-hop.node c.loop-hop.invariant.node

pub loop-hop-preserved : goal.loop-hop-preserved
loop-hop-preserved c =
    stands_more c.args.nodes.now c.args.path.now c.loop-hop.hop-index c.hop-item.result c.loop-hop-test.true c.hop-item.is c.loop-hop.node
    c.next_of-node.result
    c.loop-hop.invariant (sym c.stands.ensures ∙ c.if-not-stands.false) c.next_of-node.ensures
