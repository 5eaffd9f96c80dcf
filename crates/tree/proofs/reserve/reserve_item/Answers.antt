use Rattle.std.proofs.Common.{◌∙◌, arith}
use Rattle.std.proofs.lemmas.Result.{on_ok_weaker}
use Rattle.semantics.specs.Elements.{Item}
use Rattle.semantics.specs.Paths.{ItemHop}
use Rattle.tree.specs.Nodes.{presence_room, register_room}
use Rattle.tree.proofs.Shape.{number_child}
use Rattle.tree.proofs.Grown.{grows_trans, kept_trans, room_here}
use Rattle.tree.proofs.reserve.reserve_item.Goals as goal

pub reserve_presence-requires-clause-inside : goal.reserve_presence-requires-clause-inside
reserve_presence-requires-clause-inside c = (c.reach.ensures.kept.tree.rising c.args.at
    (ItemHop c.args.id) c.in_ok-item.item c.in_ok-item.ensures.child).1

pub returns-in_err-reserve_presence-clause-kept : goal.returns-in_err-reserve_presence-clause-kept
returns-in_err-reserve_presence-clause-kept c = kept_trans c.reach.ensures.kept c.reserve_presence.ensures.kept

pub reserve_register-requires-clause-inside : goal.reserve_register-requires-clause-inside
reserve_register-requires-clause-inside c =
    let inside = (c.reach.ensures.kept.tree.rising c.args.at (ItemHop c.args.id) c.in_ok-item.item c.in_ok-item.ensures.child).1 in
    let more = c.reserve_presence.ensures.kept.grows.count in
    omega arith

pub returns-clause-kept : goal.returns-clause-kept
returns-clause-kept c = kept_trans (kept_trans c.reach.ensures.kept c.reserve_presence.ensures.kept) c.reserve_register.ensures.kept

pub returns-clause-presence : goal.returns-clause-presence
returns-clause-presence c =
    let new = c.reserve_register.new.nodes.items in
    let item = c.in_ok-item.item in
    let grows = grows_trans c.reserve_presence.ensures.kept.grows c.reserve_register.ensures.kept.grows in
    let child = grows.children c.args.at (ItemHop c.args.id) item c.in_ok-item.ensures.child in
    let got = c.in_ok-reserve_presence.ensures.room in
    let kept = c.reserve_register.ensures.kept.grows.presence item in
    on_ok_weaker c.reserve_register.result
    (λ room e at. room_here presence_room new (Item e c.args.id) item (number_child new e c.args.at (ItemHop c.args.id) at ∙ child)
    (omega arith)) c.reserve_register.ensures.room

pub returns-clause-register : goal.returns-clause-register
returns-clause-register c =
    let new = c.reserve_register.new.nodes.items in
    let item = c.in_ok-item.item in
    let grows = grows_trans c.reserve_presence.ensures.kept.grows c.reserve_register.ensures.kept.grows in
    let child = grows.children c.args.at (ItemHop c.args.id) item c.in_ok-item.ensures.child in
    on_ok_weaker c.reserve_register.result
    (λ room e at. room_here register_room new (Item e c.args.id) item
    (number_child new e c.args.at (ItemHop c.args.id) at ∙ child) room) c.reserve_register.ensures.room
