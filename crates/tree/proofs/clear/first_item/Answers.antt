use Rattle.std.proofs.Common.{◌≡◌, ap, ◌∙◌, arith}
use Rattle.std.specs.Prelude.{slice_get}
use Rattle.tree.specs.Nodes.{empty_below_of, links}
use Rattle.tree.proofs.EmptyBelow.{all_left}
use Rattle.tree.proofs.clear.first_item.Goals as goal

pub returns-then-node-eq0-clause-from : goal.returns-then-node-eq0-clause-from
returns-then-node-eq0-clause-from c =
    let o = slice_get c.args.nodes.now c.args.at in
    let none : empty_below_of o ≡ 0 = ap empty_below_of c.node_at-node.ensures ∙ (omega arith) in
    all_left (empty_below_of o) none (links c.args.nodes.now c.args.at).1
