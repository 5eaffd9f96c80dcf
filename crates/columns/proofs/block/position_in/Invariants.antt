use Rattle.std.proofs.Common.{◌≡◌, false, take}
use Rattle.semantics.specs.Context.{has_item}
use Rattle.columns.proofs.block.position_in.Given as goal

abbrev pub invariant-loop-index : goal.invariant-loop-index
invariant-loop-index l = has_item l.id (take l.index l.ids) ≡ false
