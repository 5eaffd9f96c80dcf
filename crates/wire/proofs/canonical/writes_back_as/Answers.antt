use Rattle.std.proofs.Common.{rules}
use Rattle.wire.proofs.canonical.writes_back_as.Goals as goal

pub returns-in-Ok-with_line : goal.returns-in-Ok-with_line
returns-in-Ok-with_line c = search rules
