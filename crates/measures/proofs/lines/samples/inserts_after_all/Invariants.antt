-- An operation for each number so far.
use Rattle.std.proofs.Common.{◌≡◌, length}
use Rattle.measures.proofs.lines.samples.inserts_after_all.Given as goal

abbrev pub invariant-loop-number : goal.invariant-loop-number
invariant-loop-number l = length l.ops.items ≡ l.number
