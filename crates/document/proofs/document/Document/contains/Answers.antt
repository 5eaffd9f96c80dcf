use Rattle.std.proofs.Common.{is_some, ap, ◌∙◌}
use Rattle.oplog.proofs.PlacedIds.{placed}
use Rattle.document.proofs.document.Document.contains.Goals as goal

pub returns : goal.returns
returns c = rw (← c.self.view_is) (c.is_some.ensures ∙ ap is_some c.find.ensures ∙ placed c.self.inside.log.entries c.args.id)
