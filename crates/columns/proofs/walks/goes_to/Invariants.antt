use Rattle.columns.proofs.Walked.{Came}
use Rattle.columns.proofs.walks.goes_to.Given as goal

abbrev pub invariant-loop-block : goal.invariant-loop-block
invariant-loop-block l = Came l.blocks l.id l.fn.from.block l.fn.from.index l.block l.start
