use Rattle.lanes.proofs.Lanes.{greater_lanes}
use Rattle.lanes.proofs.block.greater.Goals as goal

pub returns : goal.returns
returns c = greater_lanes c.args.a c.args.b.now
