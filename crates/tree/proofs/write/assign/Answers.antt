use Rattle.std.proofs.Common.{◌≡◌, ◌<◌, ◌||◌, false, map, sym, ap, ◌∙◌, arith, Some, subst}
use Rattle.std.specs.Prelude.{option_map}
use Rattle.operation.specs.value.Values.{scalar_of}
use Rattle.operation.specs.cursor.Steps.{hop_of, tag_of}
use Rattle.semantics.specs.Elements.{is_same}
use Rattle.tree.specs.Nodes.{context, number, node_in, register_room}
use Rattle.tree.specs.Writes.{end_of, registered, mark, entered}
use Rattle.tree.proofs.OnTheWay.{way_itself, written, written_shown}
use Rattle.tree.proofs.Shape.{children_number, children_tree, links_trans, number_same}
use Rattle.tree.proofs.Showing.{shown_but}
use Rattle.tree.proofs.Rooms.{path_room}
use Rattle.tree.proofs.write.assign.Goals as goal

pub write_path-at-requires-clause-room : goal.write_path-at-requires-clause-room
write_path-at-requires-clause-room c = path_room c.args.nodes.now c.clear_at.new.nodes
    (map hop_of c.args.path.now) c.clear_at.ensures.children c.clear_at.ensures.room c.requires.room

pub put_scalar-requires-clause-room : goal.put_scalar-requires-clause-room
put_scalar-requires-clause-room c = λ some.
    let old = c.args.nodes.now in
    let t = end_of (map hop_of c.args.path.now) in
    let at : number old t ≡ Some c.write_path-at.result = children_number old c.clear_at.new.nodes c.clear_at.ensures.children t
    ∙ c.write_path-at.ensures.at in
    let room = subst (λ o. 0 < register_room (node_in old o)) at (c.requires.register some) in
    let a = c.clear_at.ensures.room.register c.write_path-at.result in
    let b = c.write_path-at.ensures.register_room c.write_path-at.result in
    omega arith

pub returns-clause-assigned : goal.returns-clause-assigned
returns-clause-assigned c =
    let mid = c.clear_at.new.nodes in
    let t = end_of (map hop_of c.args.path.now) in
    let a = c.args.stamp.now.id in
    let at : number c.write_path-at.new.nodes t
    ≡ Some c.write_path-at.result = sym (number_same mid c.write_path-at.new.nodes c.write_path-at.ensures.links t)
    ∙ c.write_path-at.ensures.at in
    c.put_scalar.ensures.written t at
    ∙ ap (λ C. registered C t a (option_map scalar_of c.args.scalar))
    (c.write_path-at.ensures.written ∙ ap (λ C. mark (entered C t a) t a (tag_of c.args.tag)) c.clear_at.ensures.cleared)

pub write_path-at-requires-clause-tree : goal.write_path-at-requires-clause-tree
write_path-at-requires-clause-tree c = children_tree c.args.nodes.now c.clear_at.new.nodes c.clear_at.ensures.children c.requires.tree

pub returns-clause-shown : goal.returns-clause-shown
returns-clause-shown c = λ shown.
    let mid = c.clear_at.new.nodes in
    let on = c.write_path-at.new.nodes in
    let new = c.put_scalar.new.nodes in
    let t = end_of (map hop_of c.args.path.now) in
    let a = c.args.stamp.now.id in
    let at : number on t ≡ Some c.write_path-at.result = sym (number_same mid on c.write_path-at.ensures.links t)
    ∙ c.write_path-at.ensures.at in
    let is : context new ≡ written (context mid) t a (tag_of c.args.tag) (option_map scalar_of c.args.scalar) =
    c.put_scalar.ensures.written t at ∙ ap (λ C. registered C t a (option_map scalar_of c.args.scalar)) c.write_path-at.ensures.written in
    written_shown mid new (links_trans mid on new c.write_path-at.ensures.links c.put_scalar.ensures.links) t a (tag_of c.args.tag)
    (option_map scalar_of c.args.scalar) is (λ x. is_same x t || false) (λ x far. ap (λ b. b || false) (way_itself t x far))
    (c.clear_at.ensures.shown (λ x. false) (shown_but c.args.nodes.now shown c.requires.empty))
