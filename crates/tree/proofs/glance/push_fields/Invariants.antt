-- What is left goes behind the hops so far.
use Rattle.std.proofs.Common.{◌≡◌, ◌++◌, length, map}
use Rattle.std.specs.Vec.Iter.{into_iter_items, into_iter_len}
use Rattle.semantics.specs.Paths.{FieldHop}
use Rattle.operation.specs.cursor.Steps.{hop_of}
use Rattle.tree.proofs.glance.push_fields.Given as goal

abbrev pub invariant-loop-key : goal.invariant-loop-key
invariant-loop-key l = record {
  whole : into_iter_len l.key-iterator ≡ length (into_iter_items l.key-iterator);
  left : map hop_of l.hops.items ++ map FieldHop (into_iter_items l.key-iterator)
      ≡ map hop_of l.fn.hops.items ++ map FieldHop l.fn.keys.items;
}
