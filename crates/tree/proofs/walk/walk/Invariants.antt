use Rattle.std.proofs.Common.{◌≡◌, ◌<◌, length, map, take, Some}
use Rattle.operation.specs.cursor.Steps.{hop_of}
use Rattle.tree.specs.Nodes.{number}
use Rattle.tree.specs.Writes.{end_of}
use Rattle.tree.proofs.walk.walk.Given as goal

abbrev pub invariant-loop-hop : goal.invariant-loop-hop
invariant-loop-hop l = (number l.nodes (end_of (take l.hop-index (map hop_of l.path))) ≡ Some l.at) × (l.at < length l.nodes)
