use Rattle.std.proofs.Common.{◌≡◌, ◌<◌, ◌-◌, Bool, true, length, drop, Some, is_some}
use Rattle.std.specs.FinMap.{find}
use Rattle.semantics.specs.Ids.{OpId, id_cmp}
use Rattle.semantics.specs.Elements.{Element, Item}
use Rattle.semantics.specs.DocumentAnswer.{is_any}
use Rattle.tree.specs.Nested.{IsNested}
use Rattle.tree.specs.Nodes.{AreIndexedNodes, SameChildren, MoreRoom, context, number, links}
use Rattle.tree.specs.Shown.{AreEmpty, ShownBut}
use Rattle.tree.specs.Writes.{covered_by, fields_of, items_of}
use Rattle.tree.proofs.Clears.{clear_each}
use Rattle.tree.proofs.clear.+clear_below.Given as goal

abbrev pub decreases-clear_below : goal.decreases-clear_below
decreases-clear_below l = length l.nodes.now - l.at

abbrev pub decreases-fields : goal.decreases-fields
decreases-fields l = l.fields - l.position

abbrev pub invariant-fields : goal.invariant-fields
invariant-fields l = record {
  shape : SameChildren l.fn.nodes l.nodes;
  room : MoreRoom l.fn.nodes l.nodes;
  indexed : AreIndexedNodes l.covered.table.now.numbers l.nodes;
  nested : IsNested (context l.nodes);
  empty : AreEmpty l.nodes;
  rest : (e : Element) → number l.fn.nodes e ≡ Some l.at →
      clear_each (context l.nodes) (fields_of e (drop l.position (links l.fn.nodes l.at).0)) (covered_by l.covered)
      ≡ clear_each (context l.fn.nodes) (fields_of e (links l.fn.nodes l.at).0) (covered_by l.covered);
  shown : (e : Element) (off : Element → Bool) → number l.fn.nodes e ≡ Some l.at → ShownBut l.fn.nodes off → ShownBut l.nodes off;
}

abbrev pub invariant-items : goal.invariant-items
invariant-items l = record {
  shape : SameChildren l.fn.nodes l.nodes;
  room : MoreRoom l.fn.nodes l.nodes;
  indexed : AreIndexedNodes l.covered.table.now.numbers l.nodes;
  nested : IsNested (context l.nodes);
  empty : AreEmpty l.nodes;
  rest : (e : Element) → number l.fn.nodes e ≡ Some l.at →
      clear_each (context l.nodes) (items_of e (drop l.position (links l.fn.nodes l.at).1)) (covered_by l.covered)
      ≡ clear_each (clear_each (context l.fn.nodes) (fields_of e (links l.fn.nodes l.at).0) (covered_by l.covered))
      (items_of e (links l.fn.nodes l.at).1) (covered_by l.covered);
  left : (e : Element) → number l.fn.nodes e ≡ Some l.at → (a : OpId) → a.counter < l.empty_below
      → is_any ((context l.nodes).presence (Item e a)) ≡ true → is_some (find id_cmp a (drop l.position (links l.fn.nodes l.at).1)) ≡ true;
  shown : (e : Element) (off : Element → Bool) → number l.fn.nodes e ≡ Some l.at → ShownBut l.fn.nodes off → ShownBut l.nodes off;
}
