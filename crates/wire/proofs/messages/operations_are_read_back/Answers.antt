use Rattle.wire.proofs.ReadBack.{operation_back}
use Rattle.wire.proofs.messages.operations_are_read_back.Goals as goal

pub returns : goal.returns
returns c = operation_back
