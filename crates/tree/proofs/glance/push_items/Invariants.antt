-- What is left goes behind the hops so far.
use Rattle.std.proofs.Common.{◌≡◌, ◌++◌, length, map}
use Rattle.std.specs.Vec.Iter.{into_iter_items, into_iter_len}
use Rattle.semantics.specs.Paths.{ItemHop}
use Rattle.operation.specs.cursor.Steps.{hop_of}
use Rattle.tree.proofs.glance.push_items.Given as goal

abbrev pub invariant-loop-id : goal.invariant-loop-id
invariant-loop-id l = record {
  whole : into_iter_len l.id-iterator ≡ length (into_iter_items l.id-iterator);
  left : map hop_of l.hops.items ++ map ItemHop (into_iter_items l.id-iterator)
      ≡ map hop_of l.fn.hops.items ++ map ItemHop l.fn.items.items;
}
