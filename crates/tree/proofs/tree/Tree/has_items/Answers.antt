use Rattle.std.proofs.Common.{map, ap, ◌∙◌}
use Rattle.semantics.specs.Operations.{element_of}
use Rattle.semantics.proofs.ElementPaths.{down-hops_from_root}
use Rattle.operation.specs.cursor.Steps.{hop_of}
use Rattle.tree.specs.Nodes.{context}
use Rattle.tree.specs.Trees.{items_stand}
use Rattle.tree.specs.Writes.{end_of}
use Rattle.tree.proofs.tree.Tree.has_items.Goals as goal

pub returns : goal.returns
returns c = rw (← c.self.view_is)
    (c.items_stand.ensures
    ∙ ap (λ ns. items_stand (context ns) (end_of (map hop_of c.hops.result.now))) c.deref.ensures.value
    ∙ ap (λ path. items_stand (context c.self.inside.nodes.items) (end_of path)) c.hops.ensures
    ∙ ap (items_stand (context c.self.inside.nodes.items)) (down-hops_from_root (element_of c.args.place.now)))
