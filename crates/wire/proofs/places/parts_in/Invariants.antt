-- What is left decides, after the parts so far.
use Rattle.std.proofs.Common.{◌≡◌, ◌++◌, drop, length, map, Ok}
use Rattle.serde_json.specs.View.{items_view}
use Rattle.wire.specs.Forms.{and_then}
use Rattle.wire.specs.Parts.{part_meant}
use Rattle.wire.specs.Places.{parts_of}
use Rattle.wire.proofs.places.parts_in.Given as goal

abbrev pub invariant-loop-value : goal.invariant-loop-value
invariant-loop-value l = record {
  left : and_then (λ xs. Ok (map part_meant l.parts.items ++ xs)) (parts_of (items_view (drop l.value-index l.values)))
      ≡ parts_of (items_view l.values);
  length : length l.parts.items ≡ l.value-index;
}
