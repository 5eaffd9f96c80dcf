use Rattle.std.proofs.Common.{◌≡◌, take}
use Rattle.columns.specs.Blocks.{AreMoved}
use Rattle.columns.proofs.order_blocks.move_home.Given as goal

abbrev pub invariant-loop-index : goal.invariant-loop-index
invariant-loop-index l = AreMoved (take l.index l.block.items) l.block.number l.initial.homes.entries l.homes.entries
    × (l.homes.room ≡ l.initial.homes.room)
