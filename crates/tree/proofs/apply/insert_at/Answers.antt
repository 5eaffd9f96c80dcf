use Rattle.std.proofs.Common.{map, Option, sym, ap, ◌∙◌, subst}
use Rattle.std.specs.Prelude.{option_map}
use Rattle.semantics.specs.Ids.{OpId}
use Rattle.semantics.specs.Elements.{Element, Item, EmptyMap, is_under}
use Rattle.semantics.specs.Operations.{Insert, slot_of}
use Rattle.operation.specs.value.Values.{scalar_of}
use Rattle.operation.specs.cursor.Steps.{hop_of, tag_of}
use Rattle.tree.specs.Nodes.{context}
use Rattle.tree.specs.Shown.{ShownBut}
use Rattle.tree.specs.Writes.{assigned, deps_of, end_of, linked}
use Rattle.tree.proofs.Slots.{one_slot}
use Rattle.tree.proofs.apply.insert_at.Goals as goal

pub insert-requires-clause-fits : goal.insert-requires-clause-fits
insert-requires-clause-fits c = c.requires.fits (end_of (map hop_of c.in-Some.slot.list.now)) c.in-Some.slot.prev (sym c.in-Some.ensures)

pub returns-clause-inserted : goal.returns-clause-inserted
returns-clause-inserted c = λ l p q.
    let s = c.args.stamp.now in
    let slot : Element × Option OpId = (end_of (map hop_of c.in-Some.slot.list.now), c.in-Some.slot.prev) in
    c.insert.ensures.inserted
    ∙ ap
    (λ (x : Element × Option OpId). assigned (linked (context c.args.nodes.now) x.0 x.1 s.id) s.id (deps_of s) (Item x.0 s.id)
    (tag_of c.args.tag) (option_map scalar_of c.args.scalar))
    (one_slot (slot_of (Insert EmptyMap) c.args.place.now) slot (l, p) (sym c.in-Some.ensures) q)

pub returns-clause-shown : goal.returns-clause-shown
returns-clause-shown c = λ l p q shown.
    let slot : Element × Option OpId = (end_of (map hop_of c.in-Some.slot.list.now), c.in-Some.slot.prev) in
    subst (λ (x : Element × Option OpId). ShownBut c.insert.new.nodes (is_under (Item x.0 c.args.stamp.now.id)))
    (one_slot (slot_of (Insert EmptyMap) c.args.place.now) slot (l, p) (sym c.in-Some.ensures) q) (c.insert.ensures.shown shown)
