use Rattle.columns.proofs.InBlock.{Passed}
use Rattle.columns.proofs.block.first_smaller_in.Given as goal

abbrev pub invariant-loop-index : goal.invariant-loop-index
invariant-loop-index l = Passed l.id l.ids l.from l.index
