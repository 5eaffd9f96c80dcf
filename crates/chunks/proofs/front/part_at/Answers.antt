use Rattle.std.proofs.Common.{rules, refl}
use Rattle.chunks.proofs.Spots.{spot_in, spot_inside, spot_part, spot_read}
use Rattle.chunks.proofs.front.part_at.Goals as goal

pub bounds-chunks-spot : goal.bounds-chunks-spot
bounds-chunks-spot g c = spot_inside _ c.args.chunks.now refl c.args.position c.args.spot c.requires

pub offset_bounds-chunks-spot : goal.offset_bounds-chunks-spot
offset_bounds-chunks-spot g c =
    let inside = spot_inside _ c.args.chunks.now refl c.args.position c.args.spot c.requires in
    search rules

pub returns-clause-here : goal.returns-clause-here
returns-clause-here g c =
    let r = c.index-chunks-spot.result in
    spot_in _ c.args.chunks.now refl c.args.position c.args.spot c.requires r
    (spot_read _ c.args.chunks.now refl c.args.position c.args.spot c.requires r c.index-chunks-spot.is)

pub returns-clause-part : goal.returns-clause-part
returns-clause-part g c =
    let r = c.index-chunks-spot.result in
    spot_part _ c.args.chunks.now refl c.args.position c.args.spot c.requires r
    (spot_read _ c.args.chunks.now refl c.args.position c.args.spot c.requires r c.index-chunks-spot.is)
