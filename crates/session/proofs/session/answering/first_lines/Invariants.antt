-- The first lines are written.
use Rattle.std.proofs.Common.{map}
use Rattle.replica.specs.operation.Ops.{stamped_of}
use Rattle.session.proofs.FirstLines.{HasWritten}
use Rattle.session.proofs.session.answering.first_lines.Given as goal

abbrev pub invariant-loop-count : goal.invariant-loop-count
invariant-loop-count l = HasWritten l.fn.most (map stamped_of l.fn.ops) l.count l.text.items l.writer
