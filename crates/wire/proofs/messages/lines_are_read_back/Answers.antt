use Rattle.wire.proofs.WholeOperations.{op_form-op_line}
use Rattle.wire.proofs.messages.lines_are_read_back.Goals as goal

pub returns : goal.returns
returns c = op_form-op_line
