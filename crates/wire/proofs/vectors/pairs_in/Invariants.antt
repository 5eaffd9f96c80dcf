-- What is left decides, after the pairs so far, which are of replicas up to the last.
use Rattle.std.proofs.Common.{◌≡◌, ◌++◌, suc, length, drop, Ok}
use Rattle.ids.specs.Vectors.{AreBelow}
use Rattle.serde_json.specs.View.{items_view}
use Rattle.wire.specs.Forms.{and_then}
use Rattle.wire.specs.Vectors.{pairs_above}
use Rattle.wire.proofs.vectors.pairs_in.Given as goal

abbrev pub invariant-loop-pair : goal.invariant-loop-pair
invariant-loop-pair l = record {
  below : AreBelow (suc l.last) l.vector;
  count : length l.vector ≡ l.pair-index;
  left : and_then (λ v. Ok (l.vector ++ v)) (pairs_above l.last (items_view (drop l.pair-index l.pairs)))
      ≡ pairs_above 0 (items_view l.pairs);
}
