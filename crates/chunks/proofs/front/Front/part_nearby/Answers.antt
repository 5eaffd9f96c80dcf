use Rattle.std.proofs.Common.{◌∙◌, ap, sym, length, subst, arith}
use Rattle.chunks.specs.Chunks.{IsPart, IsSpot, Sequence, ends_from, joined}
use Rattle.chunks.proofs.Spots.{last_is}
use Rattle.chunks.proofs.front.Front.part_nearby.Goals as goal

pub spot-requires : goal.spot-requires
spot-requires g c =
    let d = c.self.inside in
    let last = last_is d.ends.ends d.chunks.items c.self.invariant.0 in
    let long = ap (λ (m : Sequence g.row.T.Denot). length m.items) c.self.view_is in
    let within = c.requires in
    omega (arith, last, long, within)

pub part_at-requires : goal.part_at-requires
part_at-requires g c =
    subst (λ es. IsSpot es c.args.position c.spot.result) (c.self.invariant.0 ∙ ap (ends_from 0) (sym c.deref.ensures.value)) c.spot.ensures

pub returns-clause-part : goal.returns-clause-part
returns-clause-part g c =
    let r = c.part_at.result in
    subst (λ (m : Sequence g.row.T.Denot). IsPart m.items r.start r.chunk.now.items) c.self.view_is
    (subst (λ cs. IsPart (joined cs) r.start r.chunk.now.items) c.deref.ensures.value c.part_at.ensures.part)
