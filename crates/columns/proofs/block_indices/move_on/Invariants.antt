use Rattle.columns.proofs.IndexedBlocks.{IsMovedTo}
use Rattle.columns.proofs.block_indices.move_on.Given as goal

abbrev pub invariant-loop-number : goal.invariant-loop-number
invariant-loop-number l = IsMovedTo l.fn.indices l.index l.number l.indices
