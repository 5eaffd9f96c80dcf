use Rattle.std.proofs.Common.{◌≡◌, ◌<◌, ◌||◌, Bool, length, map, take, Some}
use Rattle.semantics.specs.Elements.{Element, is_under}
use Rattle.operation.specs.cursor.Steps.{hop_of}
use Rattle.tree.specs.Nodes.{number}
use Rattle.tree.specs.Shown.{SameButFlags, ShownBut}
use Rattle.tree.specs.Writes.{end_of}
use Rattle.tree.proofs.show.show_path.Given as goal

abbrev pub invariant-loop-hop : goal.invariant-loop-hop
invariant-loop-hop l = record {
  same : SameButFlags l.fn.nodes l.nodes;
  here : number l.fn.nodes (end_of (take l.hop-index (map hop_of l.path))) ≡ Some l.at;
  inside : l.at < length l.nodes;
  rest : (off : Element → Bool)
      → ShownBut l.fn.nodes (λ x. is_under (end_of (take l.hop-index (map hop_of l.path))) x || off x) → ShownBut l.nodes off;
}
