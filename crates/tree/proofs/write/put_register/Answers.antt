use Rattle.std.proofs.Common.{refl, ap, ◌∙◌}
use Rattle.operation.specs.value.Values.{scalar_of}
use Rattle.tree.specs.declared.node.Node.{Node}
use Rattle.tree.specs.Nodes.{valued}
use Rattle.tree.proofs.Mapped.{put-mapped}
use Rattle.tree.proofs.Contexts.{context_set, registered_with}
use Rattle.tree.proofs.write.put_register.Goals as goal

pub returns-clause-written : goal.returns-clause-written
returns-clause-written c = λ e at.
    let ns = c.args.nodes.now in
    let n : Node = c.node_at_mut-node.result.now in
    let m : Node = record n { register = c.put.new.self } in
    let g = c.node_at_mut-node.ensures.node in
    context_set ns c.requires.tree e c.args.at n m at g refl refl
    ∙ registered_with ns e c.args.at n m c.args.stamp.now.id (scalar_of c.args.scalar) at g
    refl (ap valued c.put.ensures.entries ∙ put-mapped scalar_of c.args.stamp.now.id c.args.scalar n.register.entries) refl
