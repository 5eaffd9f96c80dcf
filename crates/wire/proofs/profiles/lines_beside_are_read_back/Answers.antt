use Rattle.wire.proofs.ReadBeside.{line_form-op2_line}
use Rattle.wire.proofs.profiles.lines_beside_are_read_back.Goals as goal

pub returns : goal.returns
returns c = line_form-op2_line
