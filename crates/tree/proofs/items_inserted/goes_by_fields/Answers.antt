use Rattle.std.proofs.Common.{map, take, sym, subst}
use Rattle.std.specs.Prelude.{IsTrue}
use Rattle.semantics.specs.Paths.{child}
use Rattle.operation.specs.cursor.declared.hop.Hop.{Hop}
use Rattle.operation.specs.cursor.Steps.{hop_of}
use Rattle.tree.specs.Trees.{items_stand}
use Rattle.tree.specs.Writes.{end_of}
use Rattle.tree.proofs.Hops.{end_more}
use Rattle.tree.proofs.items_inserted.goes_by_fields.Goals as goal

pub loop-hop-preserved : goal.loop-hop-preserved
loop-hop-preserved c = λ C.
    let k = c.loop-hop.hop-index in
    let e = end_of (take k (map hop_of c.args.path.now)) in
    subst (λ x. IsTrue (items_stand C x)) (sym (end_more c.args.path.now k c.hop-item.result c.loop-hop-test.true c.hop-item.is))
    (subst (λ (h : Hop). IsTrue (items_stand C (child e (hop_of h)))) (sym c.in_default.is) (c.loop-hop.invariant C))
