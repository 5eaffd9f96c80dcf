use Rattle.std.proofs.Common.{ap, ◌∙◌}
use Rattle.published.specs.Beginnings.{Beginning}
use Rattle.published.specs.Copies.{Snapshot}
use Rattle.published.proofs.Shows.{seen_begins, shown_legal}
use Rattle.published.proofs.publisher.Publisher.notice.Goals as goal

pub of-requires-clause-legal : goal.of-requires-clause-legal
of-requires-clause-legal g c =
    shown_legal _ _ _ _ _ _ _ c.self.invariant c.again.result.log
    (ap (λ (p : Beginning). p.log) c.again.ensures ∙ ap (λ (s : Snapshot). s.log) (c.copy.view_is ∙ c.published-copy.ensures))

pub returns-clause-appended : goal.returns-clause-appended
returns-clause-appended g c = seen_begins _ _ _ _ _ _ _ c.self.invariant c.args.self.now c.self.view_is
