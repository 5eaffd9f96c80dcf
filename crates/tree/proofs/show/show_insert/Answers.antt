use Rattle.std.proofs.Common.{◌≡◌, map, sym, ap, ◌∙◌, subst}
use Rattle.semantics.specs.Elements.{EmptyMap, is_under}
use Rattle.semantics.specs.Operations.{Insert, slot_of, target_in}
use Rattle.operation.specs.cursor.Steps.{hop_of}
use Rattle.tree.specs.Shown.{ShownBut}
use Rattle.tree.specs.Writes.{end_of}
use Rattle.tree.proofs.Applied.{end_is}
use Rattle.tree.proofs.show.show_insert.Goals as goal

pub returns-in-None-clause-shown : goal.returns-in-None-clause-shown
returns-in-None-clause-shown c = λ s.
    let p = c.args.place.now in
    let path = map hop_of c.hops.result.now in
    let t : target_in (slot_of (Insert EmptyMap) p) c.args.id.now p
    ≡ end_of path = ap (λ o. target_in o c.args.id.now p) (sym c.in-None.ensures)
    ∙ sym (end_is p path c.hops.ensures) in
    c.show_at.ensures.shown (subst (λ e. ShownBut c.args.nodes.now (is_under e)) t s)
