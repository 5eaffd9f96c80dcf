use Rattle.std.proofs.Common.{◌≡◌, slice_get, drop}
use Rattle.columns.specs.Blocks.{joined_shown}
use Rattle.columns.proofs.walks.nth_shown.Given as goal

abbrev pub invariant-loop-block : goal.invariant-loop-block
invariant-loop-block l = slice_get (joined_shown l.blocks) l.fn.index ≡ slice_get (joined_shown (drop l.block-index l.blocks)) l.left
