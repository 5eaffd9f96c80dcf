-- An operation for each line so far.
use Rattle.std.proofs.Common.{◌≡◌, length}
use Rattle.measures.proofs.lines.samples.shopping_list.Given as goal

abbrev pub invariant-loop-line : goal.invariant-loop-line
invariant-loop-line l = length l.ops.items ≡ l.line-index
