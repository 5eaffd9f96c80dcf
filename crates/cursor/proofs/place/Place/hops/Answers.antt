use Rattle.std.proofs.Common.{map, sym, ap, ◌∙◌}
use Rattle.semantics.specs.Operations.{element_of}
use Rattle.semantics.specs.Paths.{hops_from_root}
use Rattle.cursor.specs.Steps.{hop_of}
use Rattle.cursor.proofs.RootPaths.{hops_from_root-place_at}
use Rattle.cursor.proofs.place.Place.hops.Goals as goal

pub returns : goal.returns
returns c =
    ap (map hop_of) c.deref.ensures.value
    ∙ sym (hops_from_root-place_at (map hop_of c.self.inside.hops.items) c.self.inside.is_head)
    ∙ ap (λ p. hops_from_root (element_of p)) c.self.view_is
