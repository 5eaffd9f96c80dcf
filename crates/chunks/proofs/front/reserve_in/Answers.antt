use Rattle.std.proofs.Common.{◌≡◌, ◌<◌, refl, sym, subst, slice_get, Some, arith}
use Rattle.std.specs.Prelude.{OnOk}
use Rattle.std.proofs.lemmas.Option.{slice_get_read}
use Rattle.chunks.proofs.Joined.{joined_same}
use Rattle.chunks.proofs.Positions.{ends_same}
use Rattle.chunks.proofs.Spare.{but_set, room_here, room_set}
use Rattle.chunks.proofs.front.reserve_in.Goals as goal

pub returns-clause-items : goal.returns-clause-items
returns-clause-items g c =
    let cs = c.args.chunks.now.items in
    let k = c.args.put in
    let r = c.index_mut.result.now in
    let is : slice_get cs k ≡ Some r = slice_get_read cs _ k r refl c.requires.inside c.index_mut.ensures.value in
    joined_same k cs r c.reserve_one.new.self is c.reserve_one.ensures.same

pub returns-clause-ends : goal.returns-clause-ends
returns-clause-ends g c =
    let cs = c.args.chunks.now.items in
    let k = c.args.put in
    let r = c.index_mut.result.now in
    let is : slice_get cs k ≡ Some r = slice_get_read cs _ k r refl c.requires.inside c.index_mut.ensures.value in
    ends_same 0 k cs r c.reserve_one.new.self is c.reserve_one.ensures.same

pub returns-clause-spare : goal.returns-clause-spare
returns-clause-spare g c = but_set c.args.put c.args.chunks.now.items c.reserve_one.new.self c.requires.spare

pub returns-clause-room : goal.returns-clause-room
returns-clause-room g c =
    subst (λ n. OnOk c.reserve_one.result (0 < n))
    (sym (room_set c.args.put c.args.chunks.now.items c.reserve_one.new.self c.requires.inside)) c.reserve_one.ensures.room

pub returns-clause-kept : goal.returns-clause-kept
returns-clause-kept g c =
    let cs = c.args.chunks.now.items in
    let k = c.args.put in
    let r = c.index_mut.result.now in
    let is : slice_get cs k ≡ Some r = slice_get_read cs _ k r refl c.requires.inside c.index_mut.ensures.value in
    let before = room_here k cs r is in
    let after = room_set k cs c.reserve_one.new.self c.requires.inside in
    let kept = c.reserve_one.ensures.kept in
    omega (arith, before, after, kept)
