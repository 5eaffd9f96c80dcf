use Rattle.wire.proofs.WrittenLines.{hello_line_in, op_line_in}
use Rattle.wire.proofs.messages.what_is_read_is_written_alike.Goals as goal

pub returns-clause-operation : goal.returns-clause-operation
returns-clause-operation c = op_line_in

pub returns-clause-vector : goal.returns-clause-vector
returns-clause-vector c = hello_line_in
