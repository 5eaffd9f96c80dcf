use Rattle.std.proofs.Common.{ltb}
use Rattle.lanes.proofs.Lanes.{mask_of_lanes}
use Rattle.lanes.proofs.block.mask_over.Goals as goal

pub returns : goal.returns
returns c = mask_of_lanes ltb c.args.bounds.now c.args.counters.now c.told-bounds c.told-counters
