-- Linking, clearing, writing the path and settling keep the shape one after another, so each finds the room that was reserved.
use Rattle.std.proofs.Common.{◌≡◌, ◌<◌, ◌||◌, map, sym, ap, ◌∙◌, arith, Some, subst, slice_get}
use Rattle.std.specs.Prelude.{option_map}
use Rattle.std.proofs.lemmas.List.{length-map}
use Rattle.semantics.specs.DocumentAnswer.{is_any}
use Rattle.semantics.specs.Elements.{Element, Item, AsList, is_same}
use Rattle.semantics.specs.Context.{Context, clear}
use Rattle.operation.specs.value.Values.{scalar_of}
use Rattle.operation.specs.cursor.Steps.{hop_of, tag_of}
use Rattle.tree.specs.Nested.{IsNested}
use Rattle.tree.specs.Nodes.{context, number, node_in, presence_of, presence_room, register_room}
use Rattle.tree.specs.Writes.{deps_of, end_of, entered, mark, registered}
use Rattle.tree.proofs.OnTheWay.{linked_shown, way_itself, written, written_shown}
use Rattle.tree.proofs.Nested.{nested_linked}
use Rattle.tree.proofs.Shape.{children_linked, children_number, children_tree, children_trans, links_trans, number_inside, number_same}
use Rattle.tree.proofs.Shape.{room_trans, tree_same}
use Rattle.tree.proofs.Showing.{but_wider, empty_kept}
use Rattle.tree.proofs.Rooms.{depth_whole, more_room, path_room, room_along}
use Rattle.tree.proofs.insert.insert.Goals as goal

pub clear_of-requires-clause-indexed : goal.clear_of-requires-clause-indexed
clear_of-requires-clause-indexed c = c.link_list-item.ensures.indexed c.args.stamp.now.table.now.numbers c.requires.indexed

pub clear_of-requires-clause-inside : goal.clear_of-requires-clause-inside
clear_of-requires-clause-inside c =
    let t = Item (end_of (map hop_of c.args.slot.now.list.now)) c.args.stamp.now.id in
    let h = number_inside c.args.nodes.now c.requires.tree t c.link_list-item.result c.link_list-item.ensures.item in
    let a = c.link_list-item.ensures.links.count in
    omega arith

pub clear_of-requires-clause-nested : goal.clear_of-requires-clause-nested
clear_of-requires-clause-nested c =
    let s = c.args.stamp.now in
    let l = end_of (map hop_of c.args.slot.now.list.now) in
    subst IsNested (sym c.link_list-item.ensures.linked)
    (nested_linked (context c.args.nodes.now) l c.args.slot.now.prev s.id c.requires.nested)

pub clear_of-requires-clause-empty : goal.clear_of-requires-clause-empty
clear_of-requires-clause-empty c = empty_kept c.args.nodes.now c.link_list-item.new.nodes c.link_list-item.ensures.links
    (λ x none. ap (λ (C : Context). is_any (C.presence x)) c.link_list-item.ensures.linked ∙ none) c.requires.empty

pub clear_of-requires-clause-there : goal.clear_of-requires-clause-there
clear_of-requires-clause-there c =
    let t : Element = Item (end_of (map hop_of c.args.slot.now.list.now)) c.args.stamp.now.id in
    (t, sym (number_same c.args.nodes.now c.link_list-item.new.nodes c.link_list-item.ensures.links t) ∙ c.link_list-item.ensures.item)

pub write_path-requires-clause-tree : goal.write_path-requires-clause-tree
write_path-requires-clause-tree c =
    children_tree c.link_list-item.new.nodes c.clear_of.new.nodes c.clear_of.ensures.children
    (tree_same c.args.nodes.now c.link_list-item.new.nodes c.link_list-item.ensures.links c.requires.tree)

pub write_path-requires-clause-room : goal.write_path-requires-clause-room
write_path-requires-clause-room c =
    let path = map hop_of c.args.slot.now.list.now in
    let n0 = c.args.nodes.now in
    let n1 = c.link_list-item.new.nodes in
    let n2 = c.clear_of.new.nodes in
    path_room n0 n2 path
    (children_trans n0 n1 n2 (children_linked n0 n1 c.link_list-item.ensures.links) c.clear_of.ensures.children)
    (room_trans n0 n1 n2 c.link_list-item.ensures.room c.clear_of.ensures.room)
    (room_along n0 path c.requires.fits.room.0)

pub settle-requires-clause-tree : goal.settle-requires-clause-tree
settle-requires-clause-tree c =
    tree_same c.clear_of.new.nodes c.write_path.new.nodes c.write_path.ensures.links
    (children_tree c.link_list-item.new.nodes c.clear_of.new.nodes c.clear_of.ensures.children
    (tree_same c.args.nodes.now c.link_list-item.new.nodes c.link_list-item.ensures.links c.requires.tree))

pub settle-requires-clause-inside : goal.settle-requires-clause-inside
settle-requires-clause-inside c =
    let t = Item (end_of (map hop_of c.args.slot.now.list.now)) c.args.stamp.now.id in
    let h = number_inside c.args.nodes.now c.requires.tree t c.link_list-item.result c.link_list-item.ensures.item in
    let a = c.link_list-item.ensures.links.count in
    let b = c.clear_of.ensures.children.count in
    let d = c.write_path.ensures.links.count in
    omega arith

pub settle-requires-clause-room : goal.settle-requires-clause-room
settle-requires-clause-room c =
    let path = map hop_of c.args.slot.now.list.now in
    let t = Item (end_of path) c.args.stamp.now.id in
    let n0 = c.args.nodes.now in
    let n1 = c.link_list-item.new.nodes in
    let n2 = c.clear_of.new.nodes in
    let n3 = c.write_path.new.nodes in
    let links = children_trans n0 n1 n2 (children_linked n0 n1 c.link_list-item.ensures.links) c.clear_of.ensures.children in
    let room = room_trans n0 n1 n2 c.link_list-item.ensures.room c.clear_of.ensures.room in
    let deep = depth_whole path in
    let count = length-map c.args.slot.now.list.now hop_of in
    let still = c.write_path.ensures.deeper t (omega arith) (more_room n0 n2 links room t c.requires.fits.room.1) in
    let at : number n3 t
    ≡ Some c.link_list-item.result = sym (children_number n0 n2 links t ∙ number_same n2 n3 c.write_path.ensures.links t)
    ∙ c.link_list-item.ensures.item in
    subst (λ o. 0 < presence_room (node_in n3 o)) at still

pub settle-requires-clause-register : goal.settle-requires-clause-register
settle-requires-clause-register c = λ some.
    let t = Item (end_of (map hop_of c.args.slot.now.list.now)) c.args.stamp.now.id in
    let here = subst (λ o. 0 < register_room (node_in c.args.nodes.now o)) c.link_list-item.ensures.item (c.requires.fits.register some) in
    let a = c.link_list-item.ensures.room.register c.link_list-item.result in
    let b = c.clear_of.ensures.room.register c.link_list-item.result in
    let d = c.write_path.ensures.register_room c.link_list-item.result in
    omega arith

pub returns-clause-inserted : goal.returns-clause-inserted
returns-clause-inserted c =
    let s = c.args.stamp.now in
    let l = end_of (map hop_of c.args.slot.now.list.now) in
    let t : Element = Item l s.id in
    let n0 = c.args.nodes.now in
    let n1 = c.link_list-item.new.nodes in
    let n2 = c.clear_of.new.nodes in
    let n3 = c.write_path.new.nodes in
    let at1 : number n1 t ≡ Some c.link_list-item.result = sym (number_same n0 n1 c.link_list-item.ensures.links t)
    ∙ c.link_list-item.ensures.item in
    let at3 : number n3 t
    ≡ Some c.link_list-item.result = sym
    (children_number n1 n2 c.clear_of.ensures.children t ∙ number_same n2 n3 c.write_path.ensures.links t)
    ∙ at1 in
    c.settle.ensures.settled t at3
    ∙ ap (λ C. registered (mark C t s.id (tag_of c.args.tag)) t s.id (option_map scalar_of c.args.scalar))
    (c.write_path.ensures.written
    ∙ ap (λ C. mark (entered C l s.id) l s.id AsList)
    (c.clear_of.ensures.cleared t at1 ∙ ap (λ C. clear C t (deps_of s)) c.link_list-item.ensures.linked))

pub returns-clause-shown : goal.returns-clause-shown
returns-clause-shown c = λ shown.
    let s = c.args.stamp.now in
    let l = end_of (map hop_of c.args.slot.now.list.now) in
    let p = c.args.slot.now.prev in
    let t : Element = Item l s.id in
    let n0 = c.args.nodes.now in
    let n1 = c.link_list-item.new.nodes in
    let n2 = c.clear_of.new.nodes in
    let n3 = c.write_path.new.nodes in
    let n4 = c.settle.new.nodes in
    let at1 : number n1 t ≡ Some c.link_list-item.result = sym (number_same n0 n1 c.link_list-item.ensures.links t)
    ∙ c.link_list-item.ensures.item in
    let at3 : number n3 t
    ≡ Some c.link_list-item.result = sym
    (children_number n1 n2 c.clear_of.ensures.children t ∙ number_same n2 n3 c.write_path.ensures.links t)
    ∙ at1 in
    let is : context n4 ≡ written (context n2) t s.id (tag_of c.args.tag) (option_map scalar_of c.args.scalar) =
    c.settle.ensures.settled t at3
    ∙ ap (λ C. registered (mark C t s.id (tag_of c.args.tag)) t s.id (option_map scalar_of c.args.scalar)) c.write_path.ensures.written in
    let new = linked_shown n0 n1 c.link_list-item.ensures.links l p s.id c.link_list-item.ensures.linked
    (c.requires.fits.position, c.requires.fits.fresh) shown c.requires.empty in
    let cleared = but_wider n2 (is_any (presence_of (slice_get n1 c.link_list-item.result))) t (λ x. is_same x t)
    (c.clear_of.ensures.shown t (λ x. is_same x t) at1 new) in
    written_shown n2 n4 (links_trans n2 n3 n4 c.write_path.ensures.links c.settle.ensures.links) t s.id (tag_of c.args.tag)
    (option_map scalar_of c.args.scalar) is (λ x. is_same x t || is_same x t)
    (λ x far. ap (λ b. b || b) (way_itself t x far)) cleared
