-- What is left decides, after the hops so far.
use Rattle.std.proofs.Common.{◌≡◌, ◌≤◌, ◌+◌, None, length, map}
use Rattle.std.specs.Vec.Iter.{into_iter_items, into_iter_len}
use Rattle.semantics.specs.Elements.{Doc}
use Rattle.semantics.specs.Paths.{down}
use Rattle.operation.specs.cursor.Steps.{hop_of}
use Rattle.wire.specs.Parts.{entered_as, key_meant, keys_ahead, part_meant}
use Rattle.wire.specs.Places.{place_below}
use Rattle.wire.proofs.places.place_of.Given as goal

abbrev pub invariant-loop-part : goal.invariant-loop-part
invariant-loop-part l = record {
  kept : l.last ≡ l.fn.last;
  whole : into_iter_len l.part-iterator ≡ length (into_iter_items l.part-iterator);
  few : (length l.hops.items + keys_ahead l.entered) + length (into_iter_items l.part-iterator) ≤ 32;
  left : place_below (down Doc (map hop_of l.hops.items)) (entered_as l.entered) (map part_meant (into_iter_items l.part-iterator))
      (key_meant l.fn.last)
      ≡ place_below Doc None (map part_meant l.fn.parts.items) (key_meant l.fn.last);
}
