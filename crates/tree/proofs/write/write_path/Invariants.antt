use Rattle.std.proofs.Common.{◌≡◌, ◌<◌, ◌≤◌, ℕ, length, map, take, Some}
use Rattle.std.specs.Prelude.{slice_get}
use Rattle.semantics.specs.Elements.{Element, depth}
use Rattle.operation.specs.cursor.Steps.{hop_of}
use Rattle.tree.specs.Nodes.{AreIndexedNodes, SameLinks, number, node_at, context, presence_room, register_room}
use Rattle.tree.specs.Writes.{end_of, entered}
use Rattle.tree.proofs.write.write_path.Given as goal

abbrev pub invariant-loop-hop : goal.invariant-loop-hop
invariant-loop-hop l = record {
  shape : SameLinks l.fn.nodes l.nodes;
  registers : (i : ℕ) → register_room (slice_get l.fn.nodes i) ≤ register_room (slice_get l.nodes i);
  kept : AreIndexedNodes l.stamp.table.now.numbers l.fn.nodes → AreIndexedNodes l.stamp.table.now.numbers l.nodes;
  here : number l.fn.nodes (end_of (take l.hop-index (map hop_of l.path))) ≡ Some l.at;
  inside : l.at < length l.nodes;
  room : (k : ℕ) → l.hop-index ≤ k → k ≤ length l.path → 0 < presence_room (node_at l.nodes (end_of (take k (map hop_of l.path))));
  deeper : (e : Element) → length l.path < depth e → 0 < presence_room (node_at l.fn.nodes e) → 0 < presence_room (node_at l.nodes e);
  done : context l.nodes ≡ entered (context l.fn.nodes) (end_of (take l.hop-index (map hop_of l.path))) l.stamp.id;
}
