use Rattle.scripts.proofs.WrittenBack.{ask_line_in, push_line_in}
use Rattle.scripts.proofs.steps.what_is_read_is_written_alike.Goals as goal

pub returns-clause-push : goal.returns-clause-push
returns-clause-push c = push_line_in

pub returns-clause-ask : goal.returns-clause-ask
returns-clause-ask c = ask_line_in
