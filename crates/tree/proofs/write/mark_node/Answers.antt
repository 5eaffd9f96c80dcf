use Rattle.std.proofs.Common.{refl, ap, ◌∙◌}
use Rattle.operation.specs.cursor.Steps.{tag_of}
use Rattle.tree.specs.declared.node.Node.{Node}
use Rattle.tree.specs.Nodes.{tagged}
use Rattle.tree.proofs.Mapped.{put-mapped}
use Rattle.tree.proofs.Contexts.{context_set, marked_with}
use Rattle.tree.proofs.write.mark_node.Goals as goal

pub returns-clause-marked : goal.returns-clause-marked
returns-clause-marked c = λ e at.
    let ns = c.args.nodes.now in
    let n : Node = c.node_at_mut-node.result.now in
    let m : Node = record n { presence = c.put.new.self } in
    let g = c.node_at_mut-node.ensures.node in
    context_set ns c.requires.tree e c.args.at n m at g refl refl
    ∙ marked_with ns e c.args.at n m c.args.stamp.now.id (tag_of c.args.tag) at g
    (ap tagged c.put.ensures.entries ∙ put-mapped tag_of c.args.stamp.now.id c.args.tag n.presence.entries) refl refl
