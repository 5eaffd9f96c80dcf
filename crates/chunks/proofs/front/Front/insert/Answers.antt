use Rattle.std.proofs.Common.{rules, ◌≡◌, ◌<◌, ◌+◌, ◌++◌, ◌∙◌, ap, sym, subst, suc, map, take, drop, length}
use Rattle.std.proofs.Common.{arith}
use Rattle.std.specs.List.{All, insert}
use Rattle.std.proofs.lemmas.List.Edits.{length-insert}
use Rattle.chunks.specs.Chunks.{Sequence, joined}
use Rattle.chunks.proofs.Joined.{joined_put}
use Rattle.chunks.proofs.Positions.{ends_few, ends_more}
use Rattle.chunks.proofs.Spare.{all_roomy, but_one, roomy_at}
use Rattle.chunks.proofs.Spots.{last_is, spot_here, spot_inside, spot_read, spot_within}
use Rattle.chunks.proofs.front.Front.insert.Goals as goal

pub spot-spot-requires : goal.spot-spot-requires
spot-spot-requires g c =
    let d = c.self.inside in
    let last = last_is d.ends.ends d.chunks.items c.self.invariant.0 in
    let long = ap (λ (m : Sequence g.row.T.Denot). length m.items) c.self.view_is in
    let within = c.requires.within in
    omega (arith, last, long, within)

pub index_mut-requires : goal.index_mut-requires
index_mut-requires g c =
    let d = c.self.inside in
    let inside = spot_inside d.ends.ends d.chunks.items c.self.invariant.0 c.args.position c.spot-spot.result c.spot-spot.ensures in
    search rules

pub put-requires-clause-within : goal.put-requires-clause-within
put-requires-clause-within g c =
    let d = c.self.inside in
    let cs = d.chunks.items in
    let spot = c.spot-spot.result in
    let r = c.index_mut.result.now in
    let is = spot_read d.ends.ends cs c.self.invariant.0 c.args.position spot c.spot-spot.ensures r c.index_mut.ensures.value in
    let within = spot_within d.ends.ends cs c.self.invariant.0 c.args.position spot c.spot-spot.ensures r is in
    omega (arith, within)

pub put-requires-clause-room : goal.put-requires-clause-room
put-requires-clause-room g c =
    let d = c.self.inside in
    let cs = d.chunks.items in
    let spot = c.spot-spot.result in
    let r = c.index_mut.result.now in
    let is = spot_read d.ends.ends cs c.self.invariant.0 c.args.position spot c.spot-spot.ensures r c.index_mut.ensures.value in
    let room = ap (λ (m : Sequence g.row.T.Denot). m.room) c.self.view_is in
    let some = c.requires.room in
    roomy_at spot.chunk cs r (all_roomy d.put cs c.self.invariant.1 (omega (arith, room, some))) is

pub move_on-requires-clause-few : goal.move_on-requires-clause-few
move_on-requires-clause-few g c =
    let d = c.self.inside in
    let long = ap (λ (m : Sequence g.row.T.Denot). length m.items) c.self.view_is in
    let few = c.requires.few in
    subst (λ es. All (λ e. e < 18446744073709551615) es) (sym c.self.invariant.0)
    (ends_few d.chunks.items 18446744073709551615 (omega (arith, long, few)))

pub invariant_of-self : goal.invariant_of-self
invariant_of-self g c =
    let d = c.self.inside in
    let cs = d.chunks.items in
    let spot = c.spot-spot.result in
    let k = spot.chunk in
    let r = c.index_mut.result.now in
    let q = c.put.new.self in
    let is = spot_read d.ends.ends cs c.self.invariant.0 c.args.position spot c.spot-spot.ensures r c.index_mut.ensures.value in
    let within = spot_within d.ends.ends cs c.self.invariant.0 c.args.position spot c.spot-spot.ensures r is in
    let more : length q.items ≡ length r.items + 1 = ap length c.put.ensures.items
    ∙ length-insert r.items spot.index c.args.item (omega (arith, within)) in
    let room = ap (λ (m : Sequence g.row.T.Denot). m.room) c.self.view_is in
    let some = c.requires.room in (
      c.move_on.ensures ∙ ap (λ es. take k es ++ map suc (drop k es)) c.self.invariant.0 ∙ sym (ends_more k cs r q is more),
      but_one k cs q (all_roomy d.put cs c.self.invariant.1 (omega (arith, room, some))),
    )

pub returns-clause-items : goal.returns-clause-items
returns-clause-items g c =
    let d = c.self.inside in
    let cs = d.chunks.items in
    let spot = c.spot-spot.result in
    let k = spot.chunk in
    let r = c.index_mut.result.now in
    let is = spot_read d.ends.ends cs c.self.invariant.0 c.args.position spot c.spot-spot.ensures r c.index_mut.ensures.value in
    let within = spot_within d.ends.ends cs c.self.invariant.0 c.args.position spot c.spot-spot.ensures r is in
    joined_put k cs r c.put.new.self spot.index c.args.item is (omega (arith, within)) c.put.ensures.items
    ∙ ap (λ i. insert (joined cs) i c.args.item)
    (spot_here d.ends.ends cs c.self.invariant.0 c.args.position spot c.spot-spot.ensures)
    ∙ ap (λ (m : Sequence g.row.T.Denot). insert m.items c.args.position c.args.item) c.self.view_is
