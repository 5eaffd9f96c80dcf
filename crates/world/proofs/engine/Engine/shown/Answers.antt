use Rattle.std.proofs.Common.{◌∙◌, ap}
use Rattle.semantics.specs.Engine.{published_entries}
use Rattle.world.proofs.Publishing.{published_first}
use Rattle.world.proofs.engine.Engine.shown.Goals as goal

pub returns-clause-entries : goal.returns-clause-entries
returns-clause-entries c =
    let e = c.self.inside in
    c.published.ensures.entries
    ∙ published_first e.publisher e.handler.replica.document.entries c.published.ensures.begins c.self.invariant.appended
    ∙ ap published_entries c.self.view_is
