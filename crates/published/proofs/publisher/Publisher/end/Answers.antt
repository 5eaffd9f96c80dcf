use Rattle.std.proofs.Common.{ap, ◌∙◌}
use Rattle.published.specs.Copies.{Snapshot}
use Rattle.published.proofs.Shows.{shown_legal}
use Rattle.published.proofs.publisher.Publisher.end.Goals as goal

pub of-requires-clause-legal : goal.of-requires-clause-legal
of-requires-clause-legal g c =
    shown_legal _ _ _ _ _ _ _ c.self.invariant c.document.inside.point.log
    (ap (λ (s : Snapshot). s.log) (c.document.view_is ∙ c.into_inner.ensures ∙ c.take.ensures))
