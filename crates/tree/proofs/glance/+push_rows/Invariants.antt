-- What is left goes behind the rows so far, and something is left out only where there is no room for it.
use Rattle.std.proofs.Common.{◌≡◌, ◌<◌, ◌≤◌, ◌+◌, ◌++◌, ◌-◌, [], length, drop, map, option_map}
use Rattle.std.specs.Vec.Iter.{into_iter_items, into_iter_len}
use Rattle.semantics.specs.Elements.{Element}
use Rattle.semantics.specs.Glances.{hops_below, rows_of, shown_by}
use Rattle.operation.specs.cursor.Steps.{hop_of}
use Rattle.tree.specs.Nodes.{context, number}
use Rattle.tree.specs.Glances.{row_of}
use Rattle.tree.proofs.FilledRows.{rows_below}
use Rattle.tree.proofs.glance.+push_rows.Given as goal

abbrev pub decreases-push_rows : goal.decreases-push_rows
decreases-push_rows l = l.bounds.depth - l.depth

abbrev pub invariant-loop-hop : goal.invariant-loop-hop
invariant-loop-hop l = record {
  whole : into_iter_len l.hop-iterator ≡ length (into_iter_items l.hop-iterator);
  room : length l.rows.items ≤ l.bounds.elements;
  above : l.depth < l.bounds.depth;
  left : (e : Element) → number l.nodes e ≡ l.node →
      map row_of l.rows.items
      ++ (rows_below (shown_by (context l.nodes)) l.bounds.depth l.depth e (map hop_of (into_iter_items l.hop-iterator))
      ++ rows_below (shown_by (context l.nodes)) l.bounds.depth l.depth e
      (drop (l.bounds.elements - length l.fn.rows.items) (hops_below (shown_by (context l.nodes)) e)))
      ≡ map row_of l.fn.rows.items
      ++ rows_of (shown_by (context l.nodes)) (l.bounds.depth - l.depth) l.depth (option_map hop_of l.fn.entered) e;
  -- where there is room for a row of each hop that is left, there are no other hops
  all : (e : Element) → number l.nodes e ≡ l.node →
      length l.rows.items + length (into_iter_items l.hop-iterator) ≤ l.bounds.elements →
      drop (l.bounds.elements - length l.fn.rows.items) (hops_below (shown_by (context l.nodes)) e) ≡ [];
}
