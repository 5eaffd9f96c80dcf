-- Where a walk along an expression stands, and where its steps lead.
use Rattle.std.specs.Prelude.{◌≡◌, ◌≤◌, List}
use Rattle.semantics.specs.Limits.{most_keys}
use Rattle.semantics.specs.Elements.{Element, Field, Item, Place as ThePlace, At, HeadOf, depth}
use Rattle.semantics.specs.Operations.{element_of}
use Rattle.operation.specs.cursor.Places.{depth_of, is_head}
use Rattle.tree.specs.declared.node.Node.{Node}
use Rattle.tree.specs.declared.spot.Spot.{Spot}
use Rattle.tree.specs.declared.spot.Target.{Target}
use Rattle.tree.specs.declared.spot.Target.TheVariants as target
use Rattle.tree.specs.Nodes.{number}

-- a walk has come to p: whether it is a head, its element's node and depth; and its path isn't too long
pub record IsSpot (ns : List Node) (s : Spot) (p : ThePlace) : Type 0 where
  pub head : s.is_head ≡ is_head p
  pub node : number ns (element_of p) ≡ s.node
  pub depth : depth (element_of p) ≡ s.depth
  pub short : depth_of p ≤ most_keys

-- where a target leads from e
abbrev pub target_from : Element → Target → ThePlace
target_from e target.Head = HeadOf e
target_from e (target.Field key) = At (Field e key.now)
target_from e (target.Item id) = At (Item e id)
