-- The base with its changes, for what is left, is what it was; the changes that are left get fewer.
use Rattle.std.proofs.Common.{◌≡◌, length}
use Rattle.ids.specs.Vectors.{IsCanonical}
use Rattle.wire.specs.Deltas.{IsRising, changed}
use Rattle.wire.proofs.deltas.ChangedPairsIterator.next.Given as goal

abbrev pub decreases-loop-change : goal.decreases-loop-change
decreases-loop-change l = length l.self-inside.changes.now

abbrev pub invariant-loop-change : goal.invariant-loop-change
invariant-loop-change l = record {
  base : IsCanonical l.self-inside.base.now;
  changes : IsRising l.self-inside.changes.now;
  left : changed l.self-inside.base.now l.self-inside.changes.now ≡ l.fn.self;
}
