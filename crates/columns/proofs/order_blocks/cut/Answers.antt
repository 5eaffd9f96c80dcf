use Rattle.std.proofs.Common.{◌≡◌, ◌∙◌, ◌≤◌, ◌<◌, ◌+◌, ap, sym, refl, subst, length, get_or, set, length-set, slice_get, Some, rules, arith}
use Rattle.std.specs.List.{insert}
use Rattle.std.proofs.lemmas.Option.{slice_get_read}
use Rattle.columns.specs.Blocks.{IsMadeAt, room_at}
use Rattle.columns.proofs.IndexedBlocks.{indexed_more, indexed_same}
use Rattle.columns.proofs.Runs.{items_here}
use Rattle.columns.proofs.CutBlocks.{cut_list, have_homes, room_cut, same_list}
use Rattle.columns.proofs.order_blocks.cut.Goals.{After-index_mut}
use Rattle.columns.proofs.order_blocks.cut.Goals as goal

-- the block that is cut
here : (c : After-index_mut) → slice_get c.args.blocks.now.items c.args.last.block ≡ Some c.index_mut.result.now
here c =
    let k = c.args.last.block in
    let r = c.index_mut.result.now in
    slice_get_read c.args.blocks.now.items _ k r refl c.requires.inside
    (c.index_mut.ensures.value ∙ ap (λ rs. get_or rs k r) c.reserve.ensures.items)

pub split_off-requires : goal.split_off-requires
split_off-requires c =
    let full : 512 ≤ length c.index_mut.result.now.items =
    subst (λ xs. 512 ≤ length xs) (items_here c.args.blocks.now.items c.args.last.block c.index_mut.result.now (here c)) c.requires.full in
    search rules

pub returns-in_err-back-clause-same : goal.returns-in_err-back-clause-same
returns-in_err-back-clause-same c = rw c.reserve.ensures.items
    (same_list c.args.blocks.now.items c.args.homes.now.entries c.args.last.block c.index_mut.result.now c.split_off.new.self
    c.requires.blocks (here (goal.at.returns-in_err-back-clause-same c).After-index_mut) c.split_off.ensures.number
    c.in_err-back.ensures.refused_items c.in_err-back.ensures.refused_flags c.split_off.ensures.kept)

pub move_home-requires : goal.move_home-requires
move_home-requires c =
    have_homes c.args.blocks.now.items c.args.homes.now.entries c.args.last.block c.args.last.block c.clamp-at.result c.index_mut.result.now
    c.in_ok-back.back.items c.requires.blocks (here (goal.at.move_home-requires c).After-index_mut) c.in_ok-back.ensures.back_items

-- the blocks, once its back stands behind it
halves : (c : goal.After-make)
    → c.insert.new.self.items
    ≡ insert (set c.args.blocks.now.items c.args.last.block c.split_off.new.self) (c.args.last.block + 1) c.in_ok-back.back
halves c =
    let k = c.args.last.block in
    let q = c.split_off.new.self in
    let inserted : c.insert.new.self.items ≡ insert (set c.reserve.new.self.items k q) (k + 1) c.in_ok-back.back = search rules in
    inserted ∙ ap (λ rs. insert (set rs k q) (k + 1) c.in_ok-back.back) c.reserve.ensures.items

pub returns-clause-same : goal.returns-clause-same
returns-clause-same c = rw (halves c)
    (cut_list c.args.blocks.now.items c.args.homes.now.entries c.move_home.new.homes.entries c.args.last.block c.clamp-at.result
    c.index_mut.result.now c.split_off.new.self c.in_ok-back.back c.requires.blocks (here (goal.at.returns-clause-same c).After-index_mut)
    c.split_off.ensures.number c.in_ok-back.ensures.items c.in_ok-back.ensures.flags
    c.in_ok-back.ensures.back_items c.in_ok-back.ensures.back_flags c.move_home.ensures.moved c.in_ok-back.ensures.back_room
    c.split_off.ensures.kept)

pub returns-clause-room : goal.returns-clause-room
returns-clause-room c =
    let k = c.args.last.block in
    subst (λ n. 0 < n)
    (sym (ap (λ rs. room_at rs k) (halves c)
    ∙ room_cut c.args.blocks.now.items k c.index_mut.result.now c.split_off.new.self c.in_ok-back.back
    (here (goal.at.returns-clause-room c).After-index_mut))) c.in_ok-back.ensures.room

pub returns-clause-indexed : goal.returns-clause-indexed
returns-clause-indexed c =
    let runs = c.args.blocks.now.items in
    let k = c.args.last.block in
    let q = c.split_off.new.self in
    let b = c.in_ok-back.back in
    let old = c.args.indices.now.by_number in
    let long : length (set runs k q) ≡ length runs = length-set runs k q in
    let count : b.number ≡ length runs = search rules in
    let number : b.number ≡ length (set runs k q) = count ∙ sym long in
    let inside : k + 1 ≤ length (set runs k q) = let lt = c.requires.inside in omega (arith, lt, long) in
    let made : IsMadeAt old (k + 1) c.make.new.self.by_number =
    subst (λ xs. IsMadeAt xs (k + 1) c.make.new.self.by_number) c.reserve_one.ensures.same c.make.ensures in
    rw (halves c)
    (indexed_more (set runs k q) old c.make.new.self.by_number (k + 1) b
    (indexed_same runs old k c.index_mut.result.now q (here (goal.at.returns-clause-indexed c).After-index_mut) c.split_off.ensures.number
    c.requires.indexed) number inside made)
