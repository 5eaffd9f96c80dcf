use Rattle.requests.proofs.ReadBack.{command_back, command_sent}
use Rattle.requests.proofs.commands.commands_are_read_back.Goals as goal

pub returns-clause-back : goal.returns-clause-back
returns-clause-back c = command_back

pub returns-clause-sent : goal.returns-clause-sent
returns-clause-sent c = command_sent
