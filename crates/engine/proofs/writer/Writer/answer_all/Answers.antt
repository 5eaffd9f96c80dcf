use Rattle.std.proofs.Common.{rules}
use Rattle.engine.proofs.writer.Writer.answer_all.Goals as goal

pub give-requires : goal.give-requires
give-requires g c = search rules
