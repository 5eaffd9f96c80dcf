use Rattle.std.proofs.Common.{◌∙◌, ap, sym, subst}
use Rattle.chunks.specs.Chunks.{IsPart, IsSpot, Sequence, ends_from, joined}
use Rattle.chunks.proofs.front.Front.part.Goals as goal

pub part_at-requires : goal.part_at-requires
part_at-requires g c =
    subst (λ es. IsSpot es c.args.position c.in-Some.spot) (c.self.invariant.0 ∙ ap (ends_from 0) (sym c.deref.ensures.value))
    c.in-Some.ensures

pub returns-in-Some-clause-part : goal.returns-in-Some-clause-part
returns-in-Some-clause-part g c =
    let r = c.part_at.result in
    subst (λ (m : Sequence g.row.T.Denot). IsPart m.items r.start r.chunk.now.items) c.self.view_is
    (subst (λ cs. IsPart (joined cs) r.start r.chunk.now.items) c.deref.ensures.value c.part_at.ensures.part)
