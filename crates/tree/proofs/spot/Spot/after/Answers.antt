use Rattle.tree.proofs.Walking.{spot_inside}
use Rattle.tree.proofs.spot.Spot.after.Goals as goal

pub field_of-requires-clause-inside : goal.field_of-requires-clause-inside
field_of-requires-clause-inside c = spot_inside c.args.nodes.now c.requires.tree c.args.self.now c.requires.spot

pub item_node-requires-clause-inside : goal.item_node-requires-clause-inside
item_node-requires-clause-inside c = spot_inside c.args.nodes.now c.requires.tree c.args.self.now c.requires.spot
