use Rattle.std.proofs.Common.{◌≡◌, ◌≤◌, get_or, length, sym, ap, ◌∙◌, subst}
use Rattle.semantics.specs.Context.{clear}
use Rattle.semantics.specs.Tables.{by_table}
use Rattle.semantics.specs.Vectors.{IsCanonical, at, covers}
use Rattle.operation.proofs.version.NamedColumns.{wide_column}
use Rattle.tree.specs.Nodes.{context, node_in, presence_of}
use Rattle.tree.specs.Writes.{deps_of}
use Rattle.tree.proofs.EmptyBelow.{none_any}
use Rattle.tree.proofs.Nested.{clear_empty}
use Rattle.tree.proofs.clear.clear_of.Goals as goal

pub returns-then-not-is_present-clause-cleared : goal.returns-then-not-is_present-clause-cleared
returns-then-not-is_present-clause-cleared c = λ e at.
    let ns = c.args.nodes.now in
    clear_empty (context ns) e (deps_of c.args.stamp.now) c.requires.nested
    (ap (λ o. presence_of (node_in ns o)) at
    ∙ none_any _ (sym c.is_present.ensures ∙ c.if-not-is_present.true))

pub name-requires-clause-canonical : goal.name-requires-clause-canonical
name-requires-clause-canonical c = subst IsCanonical (sym c.ids.ensures.ids) c.ids.ensures.named.canonical

pub returns-clause-cleared : goal.returns-clause-cleared
returns-clause-cleared c = λ e p.
    let s = c.args.stamp.now in
    let table = s.table.now.numbers in
    let is : by_table table c.name.new.self ≡ s.vector.now = wide_column table c.name.new.self s.vector.now
    c.requires.stamp.distinct c.ids.ensures.named.canonical c.requires.stamp.known
    (subst (λ n. length table ≤ n) (sym c.name.ensures.width) c.requires.width)
    (λ i lt. c.name.ensures.named i lt ∙ ap (λ v. at v (get_or table i 0)) c.ids.ensures.ids) in
    c.clear_below.ensures.cleared e p ∙ ap (λ v. clear (context c.args.nodes.now) e (covers v)) is
