-- Each hop enters its element as the definition does, and keeps the shape and the room that later hops need.
use Rattle.std.proofs.Common.{◌≡◌, ◌≢◌, ◌<◌, ◌+◌, map, sym, ap, ◌∙◌, arith, List, take, Some, subst}
use Rattle.std.specs.Prelude.{IsSome}
use Rattle.std.proofs.lemmas.List.{take_all, length-map}
use Rattle.semantics.specs.Elements.{depth}
use Rattle.semantics.specs.Paths.{Hop, child}
use Rattle.operation.specs.cursor.Steps.{hop_of, tag_of}
use Rattle.tree.specs.Nodes.{number, context, node_in, presence_room}
use Rattle.tree.specs.Writes.{end_of, entered, entered_by, mark}
use Rattle.tree.proofs.Shape.{number_child, number_same, tree_same, links_trans, number_inside}
use Rattle.tree.proofs.Hops.{end_more, number_more}
use Rattle.tree.proofs.Writes.{entered_more}
use Rattle.tree.proofs.Rooms.{depth_path, room_deeper, room_there}
use Rattle.tree.proofs.write.write_path.Goals as goal

pub enter-at-requires-clause-room : goal.enter-at-requires-clause-room
enter-at-requires-clause-room c =
    let now = c.loop-hop.nodes in
    let e = end_of (take c.loop-hop.hop-index (map hop_of c.args.path.now)) in
    let here = sym (number_same c.args.nodes.now now c.loop-hop.invariant.shape e) ∙ c.loop-hop.invariant.here in
    subst (λ o. 0 < presence_room (node_in now o)) here (c.loop-hop.invariant.room c.loop-hop.hop-index (omega arith) (omega arith))

pub enter-at-requires-clause-child : goal.enter-at-requires-clause-child
enter-at-requires-clause-child c =
    let now = c.loop-hop.nodes in
    let k = c.loop-hop.hop-index in
    let path : List Hop = map hop_of c.args.path.now in
    let here = sym (number_same c.args.nodes.now now c.loop-hop.invariant.shape (end_of (take k path))) ∙ c.loop-hop.invariant.here in
    subst IsSome (number_more c.args.path.now k c.hop-item.result c.loop-hop-test.true c.hop-item.is now c.loop-hop.at here)
    (room_there now (number now (end_of (take (k + 1) path)))
    (c.loop-hop.invariant.room (k + 1) (omega arith) (let t = c.loop-hop-test.true in omega arith)))

pub loop-hop-preserved : goal.loop-hop-preserved
loop-hop-preserved c =
    let old = c.args.nodes.now in
    let now = c.loop-hop.nodes in
    let new = c.enter-at.new.nodes in
    let k = c.loop-hop.hop-index in
    let path : List Hop = map hop_of c.args.path.now in
    let count = length-map c.args.path.now hop_of in
    let e = end_of (take k path) in
    let x = hop_of c.hop-item.result in
    let inv = c.loop-hop.invariant in
    let here : number now e ≡ Some c.loop-hop.at = sym (number_same old now inv.shape e) ∙ inv.here in
    let more : end_of (take (k + 1) path) ≡ child e x = end_more c.args.path.now k c.hop-item.result c.loop-hop-test.true c.hop-item.is in
    let there : number now (child e x) ≡ Some c.enter-at.result = number_child now e c.loop-hop.at x here ∙ c.enter-at.ensures.child in
    let tree = tree_same old now inv.shape c.requires.tree in
    let ks : depth e ≡ k = depth_path path k (omega arith) in
    record {
      shape = links_trans old now new inv.shape c.enter-at.ensures.links;
      registers = λ i. let a = inv.registers i in let b = c.enter-at.ensures.room.register i in omega arith;
      kept = λ b. c.enter-at.ensures.indexed (inv.kept b);
      here = ap (number old) more ∙ number_same old now inv.shape (child e x) ∙ there;
      inside = number_inside new (tree_same now new c.enter-at.ensures.links tree) (child e x) c.enter-at.result
          (sym (number_same now new c.enter-at.ensures.links (child e x)) ∙ there);
      room = λ j lo hi.
          let apart : depth e ≢ depth (end_of (take j path)) = λ q. let b = depth_path path j (omega arith) in absurd (omega arith) in
          room_deeper now new tree c.enter-at.ensures.links c.loop-hop.at c.enter-at.ensures.room e (end_of (take j path)) here apart
          (inv.room j (omega arith) hi);
      deeper = λ f hi r.
          let apart : depth e ≢ depth f = λ q. absurd (omega arith) in
          room_deeper now new tree c.enter-at.ensures.links c.loop-hop.at c.enter-at.ensures.room e f here apart (inv.deeper f hi r);
      done = c.enter-at.ensures.entered e here ∙ ap (λ C. entered_by C e x c.args.stamp.now.id) inv.done
          ∙ sym (entered_more (context old) e x c.args.stamp.now.id) ∙ ap (λ f. entered (context old) f c.args.stamp.now.id) (sym more);
    }

pub mark_node-requires-clause-room : goal.mark_node-requires-clause-room
mark_node-requires-clause-room c =
    let now = c.loop-hop.nodes in
    let e = end_of (take c.loop-hop.hop-index (map hop_of c.args.path.now)) in
    let here = sym (number_same c.args.nodes.now now c.loop-hop.invariant.shape e) ∙ c.loop-hop.invariant.here in
    subst (λ o. 0 < presence_room (node_in now o)) here (c.loop-hop.invariant.room c.loop-hop.hop-index (omega arith) (omega arith))

pub returns-clause-written : goal.returns-clause-written
returns-clause-written c =
    let old = c.args.nodes.now in
    let now = c.loop-hop.nodes in
    let path : List Hop = map hop_of c.args.path.now in
    let count = length-map c.args.path.now hop_of in
    let inv = c.loop-hop.invariant in
    let a = c.args.stamp.now.id in
    let whole : end_of (take c.loop-hop.hop-index path) ≡ end_of path = ap end_of (take_all c.loop-hop.hop-index path (omega arith)) in
    let here : number now (end_of path) ≡ Some c.loop-hop.at = sym (number_same old now inv.shape (end_of path))
    ∙ ap (number old) (sym whole) ∙ inv.here in
    c.mark_node.ensures.marked (end_of path) here
    ∙ ap (λ C. mark C (end_of path) a (tag_of c.args.tag)) (inv.done ∙ ap (λ f. entered (context old) f a) whole)

pub returns-clause-at : goal.returns-clause-at
returns-clause-at c =
    let path : List Hop = map hop_of c.args.path.now in
    let count = length-map c.args.path.now hop_of in
    ap (λ xs. number c.args.nodes.now (end_of xs)) (sym (take_all c.loop-hop.hop-index path (omega arith))) ∙ c.loop-hop.invariant.here

pub returns-clause-deeper : goal.returns-clause-deeper
returns-clause-deeper c = λ f hi r.
    let old = c.args.nodes.now in
    let now = c.loop-hop.nodes in
    let path : List Hop = map hop_of c.args.path.now in
    let count = length-map c.args.path.now hop_of in
    let inv = c.loop-hop.invariant in
    let e = end_of (take c.loop-hop.hop-index path) in
    let here : number now e ≡ Some c.loop-hop.at = sym (number_same old now inv.shape e) ∙ inv.here in
    let apart : depth e ≢ depth f = λ q. let a = depth_path path c.loop-hop.hop-index (omega arith) in absurd (omega arith) in
    room_deeper now c.mark_node.new.nodes
    (tree_same old now inv.shape c.requires.tree) c.mark_node.ensures.links c.loop-hop.at c.mark_node.ensures.room e f here apart
    (inv.deeper f hi r)
