use Rattle.std.proofs.Common.{◌≡◌, ◌<◌, false, map, ap, sym, ◌∙◌, subst}
use Rattle.std.specs.Prelude.{option_map}
use Rattle.semantics.specs.Elements.{Item, is_under}
use Rattle.semantics.specs.LegalHistory.{IsFormed}
use Rattle.semantics.specs.Operations.{element_of, slot_of, target_in}
use Rattle.operation.specs.value.Values.{scalar_of, value_of as meaning_of}
use Rattle.operation.specs.Ops.{mutation_of}
use Rattle.operation.specs.cursor.Steps.{hop_of, tag_of}
use Rattle.tree.specs.Nodes.{context, node_at, register_room}
use Rattle.tree.specs.Shown.{ShownBut}
use Rattle.tree.specs.Writes.{RoomTo, end_of}
use Rattle.tree.proofs.Rooms.{room_along}
use Rattle.tree.proofs.Applied.{end_is, assign_reserved, register_reserved, scalar_reserved, can_insert, assign_applied, insert_applied}
use Rattle.tree.proofs.Applied.{delete_applied}
use Rattle.tree.proofs.OnTheWay.{at_way}
use Rattle.tree.proofs.Shape.{children_tree}
use Rattle.tree.proofs.Showing.{shown_but}
use Rattle.tree.proofs.Slots.{formed_slot, slot_of_any}
use Rattle.tree.proofs.apply.run.Goals as goal

pub assign-requires-clause-room : goal.assign-requires-clause-room
assign-requires-clause-room c =
    let o = c.args.op.now in
    let path = map hop_of c.hops.result.now in
    room_along c.args.nodes.now path
    (subst (RoomTo c.args.nodes.now) (sym (end_is o.place path c.hops.ensures))
    (assign_reserved o c.args.nodes.now c.args.scalar c.requires.reserved c.in-Assign.value c.in-Assign.is).0)

pub assign-requires-clause-register : goal.assign-requires-clause-register
assign-requires-clause-register c = λ some.
    let o = c.args.op.now in
    let v = c.in-Assign.value in
    subst (λ e. 0 < register_room (node_at c.args.nodes.now e)) (sym (end_is o.place (map hop_of c.hops.result.now) c.hops.ensures))
    (register_reserved o c.args.nodes.now c.args.scalar c.requires.reserved v (element_of o.place)
    (assign_reserved o c.args.nodes.now c.args.scalar c.requires.reserved v c.in-Assign.is) some)

pub returns-in-Assign-clause-applied : goal.returns-in-Assign-clause-applied
returns-in-Assign-clause-applied c =
    let o = c.args.op.now in
    let v = c.in-Assign.value in
    assign_applied o c.args.stamp.now c.requires.id c.requires.vector c.requires.formed (context c.args.nodes.now)
    (context c.assign.new.nodes)
    v c.in-Assign.is (map hop_of c.hops.result.now) c.hops.ensures (tag_of c.of.result) c.of.ensures
    (option_map scalar_of c.args.scalar)
    (assign_reserved o c.args.nodes.now c.args.scalar c.requires.reserved v c.in-Assign.is).1 c.assign.ensures.assigned

pub insert_at-requires-clause-fits : goal.insert_at-requires-clause-fits
insert_at-requires-clause-fits c =
    can_insert c.args.op.now c.args.nodes.now c.args.scalar c.requires.reserved c.in-Insert.value c.args.stamp.now.id c.requires.id
    c.in-Insert.is c.requires.placed

pub returns-in-Insert-clause-applied : goal.returns-in-Insert-clause-applied
returns-in-Insert-clause-applied c =
    let o = c.args.op.now in
    insert_applied o c.args.stamp.now c.requires.id c.requires.vector c.requires.formed (context c.args.nodes.now)
    (context c.insert_at.new.nodes)
    c.in-Insert.value c.in-Insert.is (tag_of c.of-in-Insert.result) c.of-in-Insert.ensures
    (option_map scalar_of c.args.scalar)
    (scalar_reserved o c.args.nodes.now c.args.scalar c.requires.reserved c.in-Insert.value c.in-Insert.is) c.insert_at.ensures.inserted

pub returns-in-Delete-clause-applied : goal.returns-in-Delete-clause-applied
returns-in-Delete-clause-applied c =
    delete_applied c.args.op.now c.args.stamp.now c.requires.id c.requires.vector c.requires.formed (context c.args.nodes.now)
    (context c.clear_at.new.nodes)
    c.in-Delete.is (map hop_of c.hops-in-Delete.result.now) c.hops-in-Delete.ensures c.clear_at.ensures.cleared

pub returns-in-Assign-clause-shown : goal.returns-in-Assign-clause-shown
returns-in-Assign-clause-shown c = λ shown.
    let o = c.args.op.now in
    let path = map hop_of c.hops.result.now in
    let t : end_of path
    ≡ target_in (slot_of (mutation_of o.mutation) o.place) o.id o.place = end_is o.place path c.hops.ensures
    ∙ sym (ap (λ m. target_in (slot_of (mutation_of m) o.place) o.id o.place) c.in-Assign.is) in
    subst (λ e. ShownBut c.assign.new.nodes (is_under e)) t (c.assign.ensures.shown shown)

pub returns-in-Insert-clause-shown : goal.returns-in-Insert-clause-shown
returns-in-Insert-clause-shown c = λ shown.
    let o = c.args.op.now in
    let v = meaning_of c.in-Insert.value in
    let (l, p, slot, place) = formed_slot v o.place (subst (λ m. IsFormed (mutation_of m) o.place) c.in-Insert.is c.requires.formed) in
    let t : Item l c.args.stamp.now.id ≡ target_in (slot_of (mutation_of o.mutation) o.place) o.id o.place =
    ap (Item l) c.requires.id
    ∙ sym (ap (λ m. target_in (slot_of (mutation_of m) o.place) o.id o.place) c.in-Insert.is
    ∙ ap (λ x. target_in x o.id o.place) (slot_of_any v o.place ∙ slot)) in
    subst (λ e. ShownBut c.insert_at.new.nodes (is_under e)) t (c.insert_at.ensures.shown l p slot shown)

pub returns-in-Delete-clause-tree : goal.returns-in-Delete-clause-tree
returns-in-Delete-clause-tree c = children_tree c.args.nodes.now c.clear_at.new.nodes c.clear_at.ensures.children c.requires.tree

pub returns-in-Delete-clause-shown : goal.returns-in-Delete-clause-shown
returns-in-Delete-clause-shown c = λ shown.
    let o = c.args.op.now in
    let new = c.clear_at.new.nodes in
    let path = map hop_of c.hops-in-Delete.result.now in
    let t : end_of path
    ≡ target_in (slot_of (mutation_of o.mutation) o.place) o.id o.place = end_is o.place path c.hops-in-Delete.ensures
    ∙ sym (ap (λ m. target_in (slot_of (mutation_of m) o.place) o.id o.place) c.in-Delete.is) in
    subst (λ e. ShownBut new (is_under e)) t
    (at_way new (end_of path) (c.clear_at.ensures.shown (λ x. false) (shown_but c.args.nodes.now shown c.requires.empty)))
