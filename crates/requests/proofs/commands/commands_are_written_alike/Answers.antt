use Rattle.requests.proofs.WrittenBack.{command_text_in}
use Rattle.requests.proofs.commands.commands_are_written_alike.Goals as goal

pub returns : goal.returns
returns c = command_text_in
