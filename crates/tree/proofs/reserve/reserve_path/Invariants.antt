use Rattle.std.proofs.Common.{◌≡◌, ◌<◌, ℕ, map, take, Some}
use Rattle.operation.specs.cursor.Steps.{hop_of}
use Rattle.tree.specs.Nodes.{Kept, node_at, number, presence_room}
use Rattle.tree.specs.Writes.{end_of}
use Rattle.tree.proofs.reserve.reserve_path.Given as goal

abbrev pub invariant-loop-hop : goal.invariant-loop-hop
invariant-loop-hop l = record {
  kept : Kept l.fn.nodes.items l.nodes.items;
  here : number l.nodes.items (end_of (take l.hop-index (map hop_of l.path))) ≡ Some l.at;
  room : (k : ℕ) → k < l.hop-index → 0 < presence_room (node_at l.nodes.items (end_of (take k (map hop_of l.path))));
}
