use Rattle.std.proofs.Common.{◌≡◌, ◌++◌, drop}
use Rattle.columns.specs.Blocks.{joined_shown}
use Rattle.columns.proofs.walks.first_shown.Given as goal

abbrev pub invariant-loop-block : goal.invariant-loop-block
invariant-loop-block l = l.items.items ++ joined_shown (drop l.block-index l.blocks) ≡ joined_shown l.blocks
