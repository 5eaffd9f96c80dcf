use Rattle.std.proofs.Common.{◌≡◌, Some, sym, ap, ◌∙◌}
use Rattle.semantics.specs.Elements.{Field, Name}
use Rattle.semantics.specs.Paths.{FieldHop}
use Rattle.operation.specs.cursor.Steps.{hop_of}
use Rattle.tree.specs.Nodes.{child_number, number, context}
use Rattle.tree.specs.Writes.{entered_by, name_at}
use Rattle.tree.proofs.Shape.{number_child, number_same}
use Rattle.tree.proofs.write.enter.Goals as goal

pub returns-in-Field-clause-indexed : goal.returns-in-Field-clause-indexed
returns-in-Field-clause-indexed c = λ b. c.name_node.ensures.indexed c.args.stamp.now.table.now.numbers (c.mark_node.ensures.indexed b)

pub returns-in-Field-clause-entered : goal.returns-in-Field-clause-entered
returns-in-Field-clause-entered c = λ e at.
    let old = c.args.nodes.now in
    let mid = c.mark_node.new.nodes in
    let n : Name = c.in-Field.field-0 in
    let found : number mid (Field e n) ≡ Some c.unwrap-child.result =
    sym (number_same old mid c.mark_node.ensures.links (Field e n)) ∙ number_child old e c.args.at (FieldHop n) at
    ∙ ap (λ h. child_number old c.args.at (hop_of h)) (sym c.in-Field.is) ∙ sym c.child_of.ensures ∙ c.unwrap-child.ensures in
    c.name_node.ensures.named e n found ∙ ap (λ C. name_at C e n) (c.mark_node.ensures.marked e at)
    ∙ sym (ap (λ h. entered_by (context old) e (hop_of h) c.args.stamp.now.id) c.in-Field.is)
