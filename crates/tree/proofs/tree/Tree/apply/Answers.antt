use Rattle.std.proofs.Common.{◌≤◌, length, sym, ap, ◌∙◌, subst}
use Rattle.std.specs.Prelude.{IsTrue}
use Rattle.std.proofs.lemmas.List.{with_items_is}
use Rattle.ids.specs.Members.{AreDistinct}
use Rattle.ids.specs.Vectors.{names_only}
use Rattle.ids.proofs.Tables.{distinct_joined, names_joined}
use Rattle.semantics.specs.Context.{apply}
use Rattle.semantics.specs.Stamped.{loose_operation}
use Rattle.operation.specs.Ops.{stamped_of}
use Rattle.tree.specs.Nodes.{AreIndexedNodes, context}
use Rattle.tree.specs.Trees.{IsPlanted}
use Rattle.tree.proofs.Joined.{column_joined, nodes_joined}
use Rattle.tree.proofs.tree.Tree.apply.Goals as goal

pub apply-requires-clause-stamp : goal.apply-requires-clause-stamp
apply-requires-clause-stamp c =
    let op = c.args.op.now in
    let known = names_joined op.id.replica _ op.deps
    (subst (λ t. IsTrue (names_only t.table op.deps)) (sym c.self.view_is) c.requires.known) in
    record {
      distinct = subst AreDistinct (sym c.index_or_join-index.ensures.numbers) (distinct_joined op.id.replica _ c.self.invariant.distinct);
      index = c.index_or_join-index.ensures.index;
      known = subst (λ ps. IsTrue (names_only ps op.deps)) (sym c.index_or_join-index.ensures.numbers) known;
    }

pub apply-requires-clause-width : goal.apply-requires-clause-width
apply-requires-clause-width c =
    column_joined c.self.inside.table c.self.inside.nodes.items c.self.inside.scalar c.self.inside.column c.args.op.now.id.replica _
    c.self.view_is c.requires.room _ c.index_or_join-index.ensures.numbers

pub apply-requires-clause-indexed : goal.apply-requires-clause-indexed
apply-requires-clause-indexed c =
    subst (λ ps. AreIndexedNodes ps c.deref_mut.result.now) (sym c.index_or_join-index.ensures.numbers)
    (subst (AreIndexedNodes _) (sym c.deref_mut.ensures.value)
    (nodes_joined c.args.op.now.id.replica _ c.self.inside.nodes.items c.self.invariant.indexed))

pub invariant_of-self : goal.invariant_of-self
invariant_of-self c =
    let ps = c.index_or_join-index.new.self.numbers in
    let column = c.apply.new.column in
    let items = with_items_is c.self.inside.nodes c.apply.new.nodes (c.apply.auto.nodes ∙ c.deref_mut.ensures.len) in
    subst (λ ns. IsPlanted ps ns column) (sym items) (record {
      distinct = subst AreDistinct (sym c.index_or_join-index.ensures.numbers)
          (distinct_joined c.args.op.now.id.replica _ c.self.invariant.distinct);
      tree = c.apply.ensures.tree;
      nested = c.apply.ensures.nested;
      shown = c.apply.ensures.shown;
      empty = c.apply.ensures.empty;
      indexed = c.apply.ensures.indexed;
      wide = subst (λ n. length ps ≤ n) (sym c.apply.ensures.width)
          (column_joined c.self.inside.table c.self.inside.nodes.items c.self.inside.scalar c.self.inside.column c.args.op.now.id.replica _
          c.self.view_is c.requires.room ps c.index_or_join-index.ensures.numbers);
    })

pub returns-clause-applied : goal.returns-clause-applied
returns-clause-applied c = rw (← c.self.view_is)
    (ap context (with_items_is c.self.inside.nodes c.apply.new.nodes (c.apply.auto.nodes ∙ c.deref_mut.ensures.len))
    ∙ c.apply.ensures.applied
    ∙ ap (λ ns. apply (context ns) (loose_operation (stamped_of c.args.op.now))) c.deref_mut.ensures.value)
