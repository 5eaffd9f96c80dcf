use Rattle.std.proofs.Common.{eqb}
use Rattle.lanes.proofs.Lanes.{all_lanes}
use Rattle.lanes.proofs.block.all_eq.Goals as goal

pub returns : goal.returns
returns c = all_lanes eqb c.args.a.now c.args.b.now c.told-a c.told-b
