use Rattle.std.proofs.Common.{rules}
use Rattle.engine.proofs.writer.Writer.show.Goals as goal

pub answer_all-requires : goal.answer_all-requires
answer_all-requires g c = search rules
