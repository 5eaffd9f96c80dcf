use Rattle.std.proofs.Common.{is_some, ap, ◌∙◌}
use Rattle.oplog.proofs.PlacedIds.{placed}
use Rattle.parts_tests.proofs.tests.of_oplog.has.Goals as goal

pub returns : goal.returns
returns c = c.is_some.ensures ∙ ap is_some c.find.ensures ∙ placed c.args.log.now.entries c.args.id
