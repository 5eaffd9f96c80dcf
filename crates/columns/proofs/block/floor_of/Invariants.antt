use Rattle.std.proofs.Common.{take}
use Rattle.columns.specs.Blocks.{IsFloor}
use Rattle.columns.proofs.block.floor_of.Given as goal

abbrev pub invariant-loop-id : goal.invariant-loop-id
invariant-loop-id l = IsFloor l.floor (take l.id-index l.ids)
