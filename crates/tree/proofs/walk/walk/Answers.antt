use Rattle.std.proofs.Common.{◌≡◌, ◌+◌, map, take, Some, sym, ◌∙◌}
use Rattle.operation.specs.cursor.Steps.{hop_of}
use Rattle.tree.specs.Nodes.{number}
use Rattle.tree.specs.Writes.{end_of}
use Rattle.tree.proofs.Shape.{lost_at, number_inside}
use Rattle.tree.proofs.Hops.{number_more}
use Rattle.tree.proofs.walk.walk.Goals as goal

pub returns-in-None-clause-number : goal.returns-in-None-clause-number
returns-in-None-clause-number c =
    let ns = c.args.nodes.now in
    let k = c.loop-hop.hop-index in
    sym (lost_at ns (map hop_of c.args.path.now) (k + 1)
    (number_more c.args.path.now k c.hop-item.result c.loop-hop-test.true c.hop-item.is ns c.loop-hop.at c.loop-hop.invariant.0
    ∙ sym c.in-None.ensures))

pub loop-hop-preserved : goal.loop-hop-preserved
loop-hop-preserved c =
    let ns = c.args.nodes.now in
    let k = c.loop-hop.hop-index in
    let at : number ns (end_of (take (k + 1) (map hop_of c.args.path.now))) ≡ Some c.in-Some.child =
    number_more c.args.path.now k c.hop-item.result c.loop-hop-test.true c.hop-item.is ns c.loop-hop.at c.loop-hop.invariant.0
    ∙ sym c.in-Some.ensures in
    (at, number_inside ns c.requires (end_of (take (k + 1) (map hop_of c.args.path.now))) c.in-Some.child at)
