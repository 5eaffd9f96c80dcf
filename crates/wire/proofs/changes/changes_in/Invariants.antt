-- What is left decides, after the pairs so far, which are in ascending order of replica up to the last.
use Rattle.std.proofs.Common.{◌≡◌, ◌++◌, suc, drop, Ok}
use Rattle.ids.specs.Vectors.{AreBelow}
use Rattle.serde_json.specs.View.{items_view}
use Rattle.wire.specs.Deltas.{IsRising, changes_above}
use Rattle.wire.specs.Forms.{and_then}
use Rattle.wire.proofs.changes.changes_in.Given as goal

abbrev pub invariant-loop-pair : goal.invariant-loop-pair
invariant-loop-pair l = record {
  rising : IsRising l.changes.items;
  below : AreBelow (suc l.last) l.changes.items;
  left : and_then (λ d. Ok (l.changes.items ++ d)) (changes_above l.base l.last (items_view (drop l.pair-index l.pairs)))
      ≡ changes_above l.base 0 (items_view l.pairs);
}
