use Rattle.std.proofs.Common.{refl, true}
use Rattle.tree.specs.declared.node.Node.{Node}
use Rattle.tree.proofs.Names.{named_with}
use Rattle.tree.proofs.write.name_node.Goals as goal

pub returns-clause-named : goal.returns-clause-named
returns-clause-named c = λ e n at.
    let ns = c.args.nodes.now in
    let old : Node = c.node_at_mut-node.result.now in
    let m : Node = record old { is_written = true } in
    let g = c.node_at_mut-node.ensures.node in
    named_with ns c.requires.tree e n c.args.at old m at g refl refl refl refl refl
