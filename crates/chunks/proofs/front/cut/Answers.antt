use Rattle.std.proofs.Common.{rules, ◌<◌, ◌≤◌, ◌+◌, ◌∙◌, ap, sym, subst, suc, length, get_or}
use Rattle.std.proofs.Common.{arith}
use Rattle.std.specs.List.{insert}
use Rattle.std.proofs.lemmas.List.{length-drop, length-take-le}
use Rattle.chunks.specs.Chunks.{AreRoomyBut, Sequence, ends_from, joined, room_at}
use Rattle.chunks.proofs.Joined.{joined_cut, joined_same}
use Rattle.chunks.proofs.Positions.{before_most, before_next, ends_cut, ends_same}
use Rattle.chunks.proofs.Spare.{but_cut, but_set, room_cut, room_here, room_set}
use Rattle.chunks.proofs.Spots.{many, read_after, start_is}
use Rattle.chunks.proofs.front.cut.Goals as goal

pub returns-in_err-back-clause-items : goal.returns-in_err-back-clause-items
returns-in_err-back-clause-items g c =
    let cs = c.reserve.new.self.items in
    let k = c.args.put in
    let r = c.index_mut.result.now in
    let is = read_after c.args.chunks.now.items cs k r c.reserve.ensures.items c.requires.inside c.index_mut.ensures.value in
    joined_same k cs r c.split_off.new.self is c.in_err-back.ensures.refused ∙ ap joined c.reserve.ensures.items

pub returns-in_err-back-clause-ends : goal.returns-in_err-back-clause-ends
returns-in_err-back-clause-ends g c =
    let cs = c.reserve.new.self.items in
    let k = c.args.put in
    let r = c.index_mut.result.now in
    let is = read_after c.args.chunks.now.items cs k r c.reserve.ensures.items c.requires.inside c.index_mut.ensures.value in
    c.reserve_one.ensures.same ∙ c.requires.ends ∙ ap (ends_from 0) (sym c.reserve.ensures.items)
    ∙ sym (ends_same 0 k cs r c.split_off.new.self is c.in_err-back.ensures.refused)

pub returns-in_err-back-clause-spare : goal.returns-in_err-back-clause-spare
returns-in_err-back-clause-spare g c =
    but_set c.args.put c.reserve.new.self.items c.split_off.new.self
    (subst (AreRoomyBut c.args.put) (sym c.reserve.ensures.items) c.requires.spare)

pub returns-in_err-back-clause-kept : goal.returns-in_err-back-clause-kept
returns-in_err-back-clause-kept g c =
    let cs = c.reserve.new.self.items in
    let k = c.args.put in
    let r = c.index_mut.result.now in
    let inside = subst (λ xs. k < length xs) (sym c.reserve.ensures.items) c.requires.inside in
    let is = read_after c.args.chunks.now.items cs k r c.reserve.ensures.items c.requires.inside c.index_mut.ensures.value in
    let was = ap (λ xs. room_at xs k) c.reserve.ensures.items in
    let before = room_here k cs r is in
    let after = room_set k cs c.split_off.new.self inside in
    let kept = c.split_off.ensures.kept in
    omega (arith, was, before, after, kept)

pub start-requires : goal.start-requires
start-requires g c =
    let long = many c.args.ends.now.ends c.args.chunks.now.items c.requires.ends in
    let same = ap length c.reserve_one.ensures.same in
    let inside = c.requires.inside in
    omega (arith, long, same, inside)

pub insert-requires-clause-within : goal.insert-requires-clause-within
insert-requires-clause-within g c =
    let long = many c.args.ends.now.ends c.args.chunks.now.items c.requires.ends in
    let same = ap length c.reserve_one.ensures.same in
    let inside = c.requires.inside in
    omega (arith, long, same, inside)

pub overflow_add-start : goal.overflow_add-start
overflow_add-start g c =
    let cs = c.reserve.new.self.items in
    let k = c.args.put in
    let r = c.index_mut.result.now in
    let inside = subst (λ xs. k < length xs) (sym c.reserve.ensures.items) c.requires.inside in
    let is = read_after c.args.chunks.now.items cs k r c.reserve.ensures.items c.requires.inside c.index_mut.ensures.value in
    let are = c.reserve_one.ensures.same ∙ c.requires.ends ∙ ap (ends_from 0) (sym c.reserve.ensures.items) in
    let from = c.start.ensures ∙ start_is c.reserve_one.new.self.ends cs are k (omega (arith, inside)) in
    let next = before_next k cs r is in
    let most = before_most (suc k) cs in
    let few = c.requires.few in
    let all = ap (λ xs. length (joined xs)) c.reserve.ensures.items in
    let full : 512 ≤ length r.items = subst (λ (o : Sequence g.row.T.Denot). 512 ≤ length o.items)
    (sym (c.index_mut.ensures.value ∙ ap (λ xs. get_or xs k r) c.reserve.ensures.items)) (c.requires.full r) in
    let low : c.start.result + 256 ≤ 9223372036854775808 = omega (arith, from, next, most, few, all, full) in
    search rules

pub returns-clause-items : goal.returns-clause-items
returns-clause-items g c =
    let cs = c.reserve.new.self.items in
    let k = c.args.put in
    let r = c.index_mut.result.now in
    let is = read_after c.args.chunks.now.items cs k r c.reserve.ensures.items c.requires.inside c.index_mut.ensures.value in
    ap joined c.insert_reserved.ensures.items
    ∙ joined_cut k 256 cs r c.split_off.new.self c.in_ok-back.back is c.in_ok-back.ensures.items c.in_ok-back.ensures.back_items
    ∙ ap joined c.reserve.ensures.items

pub returns-clause-ends : goal.returns-clause-ends
returns-clause-ends g c =
    let cs = c.reserve.new.self.items in
    let k = c.args.put in
    let r = c.index_mut.result.now in
    let q = c.split_off.new.self in
    let b = c.in_ok-back.back in
    let e = c.start.result + 256 in
    let inside = subst (λ xs. k < length xs) (sym c.reserve.ensures.items) c.requires.inside in
    let is = read_after c.args.chunks.now.items cs k r c.reserve.ensures.items c.requires.inside c.index_mut.ensures.value in
    let are = c.reserve_one.ensures.same ∙ c.requires.ends ∙ ap (ends_from 0) (sym c.reserve.ensures.items) in
    let from = c.start.ensures ∙ start_is c.reserve_one.new.self.ends cs are k (omega (arith, inside)) in
    let full : 512 ≤ length r.items = subst (λ (o : Sequence g.row.T.Denot). 512 ≤ length o.items)
    (sym (c.index_mut.ensures.value ∙ ap (λ xs. get_or xs k r) c.reserve.ensures.items)) (c.requires.full r) in
    let taken = ap length c.in_ok-back.ensures.items ∙ length-take-le 256 r.items (omega (arith, full)) in
    let rest = ap length c.in_ok-back.ensures.back_items ∙ length-drop 256 r.items in
    c.insert.ensures
    ∙ ap (λ es. insert es k e) are
    ∙ sym (ends_cut k cs r q b e is (omega (arith, full, taken, rest)) (omega (arith, from, taken)))
    ∙ ap (ends_from 0) (sym c.insert_reserved.ensures.items)

pub returns-clause-spare : goal.returns-clause-spare
returns-clause-spare g c =
    let cs = c.reserve.new.self.items in
    let k = c.args.put in
    subst (AreRoomyBut k) (sym c.insert_reserved.ensures.items)
    (but_cut k cs c.split_off.new.self c.in_ok-back.back
    (subst (λ xs. k < length xs) (sym c.reserve.ensures.items) c.requires.inside)
    (subst (AreRoomyBut k) (sym c.reserve.ensures.items) c.requires.spare) c.in_ok-back.ensures.back_room)

pub returns-clause-room : goal.returns-clause-room
returns-clause-room g c =
    let cs = c.reserve.new.self.items in
    let k = c.args.put in
    let inside = subst (λ xs. k < length xs) (sym c.reserve.ensures.items) c.requires.inside in
    let here = ap (λ xs. room_at xs k) c.insert_reserved.ensures.items ∙ room_cut k cs c.split_off.new.self c.in_ok-back.back inside in
    let some = c.in_ok-back.ensures.room in
    omega (arith, here, some)

pub returns-clause-kept : goal.returns-clause-kept
returns-clause-kept g c =
    let cs = c.reserve.new.self.items in
    let k = c.args.put in
    let r = c.index_mut.result.now in
    let inside = subst (λ xs. k < length xs) (sym c.reserve.ensures.items) c.requires.inside in
    let is = read_after c.args.chunks.now.items cs k r c.reserve.ensures.items c.requires.inside c.index_mut.ensures.value in
    let was = ap (λ xs. room_at xs k) c.reserve.ensures.items in
    let before = room_here k cs r is in
    let here = ap (λ xs. room_at xs k) c.insert_reserved.ensures.items ∙ room_cut k cs c.split_off.new.self c.in_ok-back.back inside in
    let kept = c.split_off.ensures.kept in
    omega (arith, was, before, here, kept)
