use Rattle.std.proofs.Common.{rules}
use Rattle.engine.proofs.writer.Writer.step.Goals as goal

pub returns-else-is_empty-clause-same : goal.returns-else-is_empty-clause-same
returns-else-is_empty-clause-same g c = search rules

pub returns-else-is_empty-clause-again : goal.returns-else-is_empty-clause-again
returns-else-is_empty-clause-again g c = search rules
