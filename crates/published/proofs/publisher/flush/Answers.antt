use Rattle.std.proofs.Common.{rules}
use Rattle.published.proofs.publisher.flush.Goals as goal

pub returns-in-Err-clause-pending : goal.returns-in-Err-clause-pending
returns-in-Err-clause-pending g c = search rules
