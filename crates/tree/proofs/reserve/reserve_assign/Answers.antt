use Rattle.std.proofs.Common.{map}
use Rattle.std.proofs.lemmas.Result.{IfOk-weaker}
use Rattle.operation.specs.cursor.Steps.{hop_of}
use Rattle.tree.specs.Nodes.{register_room}
use Rattle.tree.specs.Writes.{end_of}
use Rattle.tree.proofs.Rooms.{room_down}
use Rattle.tree.proofs.Grown.{kept_trans, number_grows, room_here, way_kept}
use Rattle.tree.proofs.reserve.reserve_assign.Goals as goal

pub returns-in_err-reserve_register-clause-kept : goal.returns-in_err-reserve_register-clause-kept
returns-in_err-reserve_register-clause-kept c = kept_trans c.reserve_path.ensures.kept c.reserve_register.ensures.kept

pub returns-clause-kept : goal.returns-clause-kept
returns-clause-kept c = kept_trans c.reserve_path.ensures.kept c.reserve_register.ensures.kept

pub returns-clause-room : goal.returns-clause-room
returns-clause-room c =
    let mid = c.reserve_path.new.nodes.items in
    let new = c.reserve_register.new.nodes.items in
    let path = map hop_of c.args.path.now in
    IfOk-weaker c.copy_scalar.result _ _
    (λ s copied. way_kept mid new c.reserve_register.ensures.kept.grows (end_of path)
    (room_down mid path c.in_ok-at.ensures.room.0)) c.copy_scalar.ensures

pub returns-clause-register : goal.returns-clause-register
returns-clause-register c =
    let mid = c.reserve_path.new.nodes.items in
    let new = c.reserve_register.new.nodes.items in
    let e = end_of (map hop_of c.args.path.now) in
    let at = number_grows mid new c.reserve_register.ensures.kept.grows e c.in_ok-at.at c.in_ok-at.ensures.room.1 in
    IfOk-weaker c.copy_scalar.result _ _
    (λ s copied. room_here register_room new e c.in_ok-at.at at c.in_ok-reserve_register.ensures.room) c.copy_scalar.ensures
