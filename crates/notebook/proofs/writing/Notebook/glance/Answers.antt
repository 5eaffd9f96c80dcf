use Rattle.std.proofs.Common.{◌∙◌, ap, subst}
use Rattle.semantics.specs.WorldHistory.{BeginsWith}
use Rattle.semantics.proofs.GrownEngines.{begins_trans}
use Rattle.notebook.specs.Notebooks.{Notebook}
use Rattle.notebook.proofs.writing.Notebook.glance.Goals as goal

pub returns-clause-shows : goal.returns-clause-shows
returns-clause-shows g c = (
  subst (BeginsWith c.glance.new.self.seen) (c.notice.ensures ∙ ap (λ (n : Notebook). n.published) c.self.view_is)
      (begins_trans c.glance.new.self.seen c.learn-2.new.self.seen c.notice.result c.glance.ensures.grows c.learn-2.ensures.learns),
  c.glance.ensures.legal,
)
