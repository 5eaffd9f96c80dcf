-- What differs of what is left is what differed; the pairs of the vector that are left get fewer.
use Rattle.std.proofs.Common.{◌≡◌, length}
use Rattle.ids.specs.Vectors.{IsCanonical}
use Rattle.wire.specs.Deltas.{delta}
use Rattle.wire.proofs.deltas.DifferencesIterator.next.Given as goal

abbrev pub decreases-loop-id : goal.decreases-loop-id
decreases-loop-id l = length l.self-inside.ids.now

abbrev pub invariant-loop-id : goal.invariant-loop-id
invariant-loop-id l = record {
  base : IsCanonical l.self-inside.base.now;
  ids : IsCanonical l.self-inside.ids.now;
  left : delta l.self-inside.base.now l.self-inside.ids.now ≡ l.fn.self;
}
