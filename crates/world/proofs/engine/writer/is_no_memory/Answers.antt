use Rattle.std.proofs.Common.{rules}
use Rattle.world.proofs.engine.writer.is_no_memory.Goals as goal

pub returns-in-Refused-NoMemory-default : goal.returns-in-Refused-NoMemory-default
returns-in-Refused-NoMemory-default c = search rules

pub returns-in_default : goal.returns-in_default
returns-in_default c = search rules

pub returns-in_default-2 : goal.returns-in_default-2
returns-in_default-2 c = search rules
