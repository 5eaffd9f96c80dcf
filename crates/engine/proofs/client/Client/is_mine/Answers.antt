use Rattle.std.proofs.Common.{rules}
use Rattle.engine.proofs.client.Client.is_mine.Goals as goal

pub returns-then-ticket-gt0 : goal.returns-then-ticket-gt0
returns-then-ticket-gt0 g c = search rules

pub returns-else-ticket-gt0 : goal.returns-else-ticket-gt0
returns-else-ticket-gt0 g c = search rules
