use Rattle.std.proofs.Common.{map, arith}
use Rattle.std.proofs.lemmas.Result.{IfOk-weaker}
use Rattle.operation.specs.cursor.Steps.{hop_of}
use Rattle.tree.specs.Nodes.{order_room}
use Rattle.tree.specs.Writes.{end_of}
use Rattle.tree.proofs.Shape.{number_inside}
use Rattle.tree.proofs.Rooms.{room_down}
use Rattle.tree.proofs.Grown.{grows_trans, kept_trans, number_grows, order_kept, room_here, way_kept}
use Rattle.tree.proofs.reserve.reserve_insert.Goals as goal

pub returns-in_err-reserve_order-clause-kept : goal.returns-in_err-reserve_order-clause-kept
returns-in_err-reserve_order-clause-kept c = kept_trans c.reserve_path.ensures.kept c.reserve_order.ensures.kept

pub reserve_item-requires-clause-inside : goal.reserve_item-requires-clause-inside
reserve_item-requires-clause-inside c =
    let inside = number_inside c.reserve_path.new.nodes.items c.reserve_path.ensures.kept.tree
    (end_of (map hop_of c.args.list.now)) c.in_ok-at.at c.in_ok-at.ensures.room.1 in
    let more = c.reserve_order.ensures.kept.grows.count in
    omega arith

pub returns-in_err-reserve_item-clause-kept : goal.returns-in_err-reserve_item-clause-kept
returns-in_err-reserve_item-clause-kept c = kept_trans (kept_trans c.reserve_path.ensures.kept c.reserve_order.ensures.kept)
    c.reserve_item.ensures.kept

pub returns-clause-kept : goal.returns-clause-kept
returns-clause-kept c = kept_trans (kept_trans c.reserve_path.ensures.kept c.reserve_order.ensures.kept)
    c.reserve_item.ensures.kept

pub returns-clause-room : goal.returns-clause-room
returns-clause-room c =
    let first = c.reserve_path.new.nodes.items in
    let new = c.reserve_item.new.nodes.items in
    let path = map hop_of c.args.list.now in
    let grows = grows_trans c.reserve_order.ensures.kept.grows c.reserve_item.ensures.kept.grows in
    let at = number_grows first new grows (end_of path) c.in_ok-at.at c.in_ok-at.ensures.room.1 in
    IfOk-weaker c.copy_scalar.result _ _
    (λ s copied. (
      way_kept first new grows (end_of path)
          (room_down first path c.in_ok-at.ensures.room.0),
      c.in_ok-reserve_item.ensures.presence (end_of path) at,
    )) c.copy_scalar.ensures

pub returns-clause-register : goal.returns-clause-register
returns-clause-register c =
    let first = c.reserve_path.new.nodes.items in
    let new = c.reserve_item.new.nodes.items in
    let e = end_of (map hop_of c.args.list.now) in
    let grows = grows_trans c.reserve_order.ensures.kept.grows c.reserve_item.ensures.kept.grows in
    let at = number_grows first new grows e c.in_ok-at.at c.in_ok-at.ensures.room.1 in
    IfOk-weaker c.copy_scalar.result _ _ (λ s copied. c.in_ok-reserve_item.ensures.register e at) c.copy_scalar.ensures

pub returns-clause-order : goal.returns-clause-order
returns-clause-order c =
    let first = c.reserve_path.new.nodes.items in
    let mid = c.reserve_order.new.nodes.items in
    let new = c.reserve_item.new.nodes.items in
    let e = end_of (map hop_of c.args.list.now) in
    let at = number_grows first mid c.reserve_order.ensures.kept.grows e c.in_ok-at.at c.in_ok-at.ensures.room.1 in
    IfOk-weaker c.copy_scalar.result _ _
    (λ s copied. order_kept mid new c.reserve_item.ensures.kept.grows e
    (room_here order_room mid e c.in_ok-at.at at c.in_ok-reserve_order.ensures.room)) c.copy_scalar.ensures
