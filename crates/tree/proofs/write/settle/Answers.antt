use Rattle.std.proofs.Common.{sym, ap, ◌∙◌}
use Rattle.std.specs.Prelude.{option_map}
use Rattle.operation.specs.value.Values.{scalar_of}
use Rattle.tree.specs.Writes.{registered}
use Rattle.tree.proofs.Shape.{number_same}
use Rattle.tree.proofs.write.settle.Goals as goal

pub returns-clause-settled : goal.returns-clause-settled
returns-clause-settled c = λ e at.
    c.put_scalar.ensures.written e (sym (number_same c.args.nodes.now c.mark_node.new.nodes c.mark_node.ensures.links e) ∙ at)
    ∙ ap (λ C. registered C e c.args.stamp.now.id (option_map scalar_of c.args.scalar)) (c.mark_node.ensures.marked e at)
