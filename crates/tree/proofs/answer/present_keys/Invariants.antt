-- The keys so far, at most as many as are wanted.
use Rattle.std.proofs.Common.{◌≡◌, ◌≤◌, ◌-◌, Some, length, map, take}
use Rattle.std.specs.List.{filter}
use Rattle.semantics.specs.Elements.{Element, Field}
use Rattle.semantics.specs.DocumentAnswer.{is_any}
use Rattle.tree.specs.Nodes.{number, context, links, names_in}
use Rattle.tree.proofs.answer.present_keys.Given as goal

abbrev pub decreases-loop-position : goal.decreases-loop-position
decreases-loop-position l = l.fields - l.position

abbrev pub invariant-loop-position : goal.invariant-loop-position
invariant-loop-position l = record {
  few : length l.keys.items ≤ l.fn.count;
  found : (e : Element) → number l.fn.nodes e ≡ Some l.fn.at →
      l.keys.items ≡ filter (λ n. is_any ((context l.fn.nodes).presence (Field e n)))
      (map (λ x. x.0) (names_in l.fn.nodes (take l.position (links l.fn.nodes l.fn.at).0)));
}
