use Rattle.std.proofs.Common.{map, take}
use Rattle.operation.specs.cursor.Steps.{hop_of}
use Rattle.tree.specs.Writes.{end_of}
use Rattle.tree.proofs.StandingItems.{StandsSo}
use Rattle.tree.proofs.items_inserted.items_stand.Given as goal

abbrev pub invariant-loop-hop : goal.invariant-loop-hop
invariant-loop-hop l = StandsSo l.nodes (end_of (take l.hop-index (map hop_of l.path))) l.node
