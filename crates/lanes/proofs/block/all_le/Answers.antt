use Rattle.std.proofs.Common.{leb}
use Rattle.lanes.proofs.Lanes.{all_lanes}
use Rattle.lanes.proofs.block.all_le.Goals as goal

pub returns : goal.returns
returns c = all_lanes leb c.args.a.now c.args.b.now c.told-a c.told-b
