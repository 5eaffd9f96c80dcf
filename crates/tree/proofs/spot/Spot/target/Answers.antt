use Rattle.std.proofs.Common.{rules}
use Rattle.tree.proofs.Walking.{spot_inside}
use Rattle.tree.proofs.spot.Spot.target.Goals as goal

pub item_in-requires-clause-inside : goal.item_in-requires-clause-inside
item_in-requires-clause-inside c = spot_inside c.args.nodes.now c.requires.tree c.args.self.now c.requires.spot

pub returns-in-Some-clause-step : goal.returns-in-Some-clause-step
returns-in-Some-clause-step c = search rules

pub returns-in-None-clause-step : goal.returns-in-None-clause-step
returns-in-None-clause-step c = search rules

pub is_listed-requires : goal.is_listed-requires
is_listed-requires c = spot_inside c.args.nodes.now c.requires.tree c.args.self.now c.requires.spot
