use Rattle.std.proofs.Common.{rules}
use Rattle.bench.proofs.gate.at.Goals as goal

pub returns-in_err-clone : goal.returns-in_err-clone
returns-in_err-clone c = search rules

pub returns-in_err-vec : goal.returns-in_err-vec
returns-in_err-vec c = search rules

pub returns : goal.returns
returns c = search rules
