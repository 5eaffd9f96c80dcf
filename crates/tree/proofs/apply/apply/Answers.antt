use Rattle.std.proofs.Common.{sym, ◌∙◌, subst}
use Rattle.semantics.specs.Stamped.{loose_operation}
use Rattle.operation.specs.Ops.{stamped_of}
use Rattle.tree.specs.Nested.{IsNested}
use Rattle.tree.specs.Nodes.{context}
use Rattle.tree.proofs.Nested.{nested_apply}
use Rattle.tree.proofs.Showing.{flags_context, flags_tree}
use Rattle.tree.proofs.apply.apply.Goals as goal

pub returns-clause-tree : goal.returns-clause-tree
returns-clause-tree c = flags_tree c.run.new.nodes c.show.new.nodes c.show.ensures.same c.run.ensures.tree

pub returns-clause-nested : goal.returns-clause-nested
returns-clause-nested c =
    let applied = sym (flags_context c.run.new.nodes c.show.new.nodes c.show.ensures.same) ∙ c.run.ensures.applied in
    subst IsNested (sym applied)
    (nested_apply (context c.args.nodes.now) (loose_operation (stamped_of c.args.op.now)) c.requires.nested)

pub returns-clause-indexed : goal.returns-clause-indexed
returns-clause-indexed c = c.show.ensures.same.indexed c.args.stamp.now.table.now.numbers c.run.ensures.indexed

pub returns-clause-shown : goal.returns-clause-shown
returns-clause-shown c = (c.show.ensures.shown (c.run.ensures.shown c.requires.shown)).0

pub returns-clause-empty : goal.returns-clause-empty
returns-clause-empty c = (c.show.ensures.shown (c.run.ensures.shown c.requires.shown)).1

pub returns-clause-applied : goal.returns-clause-applied
returns-clause-applied c = sym (flags_context c.run.new.nodes c.show.new.nodes c.show.ensures.same) ∙ c.run.ensures.applied
