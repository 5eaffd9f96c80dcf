use Rattle.std.proofs.Common.{rules}
use Rattle.bench.proofs.gate.values_at.Goals as goal

pub returns-in_err-at : goal.returns-in_err-at
returns-in_err-at c = search rules

pub returns : goal.returns
returns c = search rules
