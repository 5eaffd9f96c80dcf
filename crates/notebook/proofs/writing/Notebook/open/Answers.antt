use Rattle.std.proofs.Common.{◌∙◌, subst, sym}
use Rattle.store.specs.WholeLines.{AreWhole}
use Rattle.notebook.proofs.writing.Notebook.open.Goals as goal

pub returns-in-Ok-of-clause-held : goal.returns-in-Ok-of-clause-held
returns-in-Ok-of-clause-held g c = (
  c.of-in-Ok-of.ensures.shelf.2 ∙ c.in-Ok-of.ensures.0,
  c.of-in-Ok-of.ensures.shelf.1 ∙ c.in-Ok-of.ensures.2 ∙ sym c.of-in-Ok-of.ensures.shelf.0,
  (
    c.in-Ok.ends.length,
    subst (AreWhole c.in-Ok.ends.length) c.deref.ensures.value c.in-Ok.ensures.whole,
    c.of-in-Ok-of.ensures.shelf.0
        ∙ c.in-Ok-of.ensures.1,
  ),
)
