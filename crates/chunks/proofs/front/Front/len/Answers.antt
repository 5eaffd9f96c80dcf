use Rattle.std.proofs.Common.{◌∙◌, ap, length}
use Rattle.chunks.specs.Chunks.{Sequence}
use Rattle.chunks.proofs.Spots.{last_is}
use Rattle.chunks.proofs.front.Front.len.Goals as goal

pub returns : goal.returns
returns g c =
    let d = c.self.inside in
    c.last.ensures ∙ last_is d.ends.ends d.chunks.items c.self.invariant.0
    ∙ ap (λ (m : Sequence g.row.T.Denot). length m.items) c.self.view_is
