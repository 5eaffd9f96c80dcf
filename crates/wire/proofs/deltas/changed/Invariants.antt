-- The pairs so far, at most 256, and those that are left are all of the base with its changes.
use Rattle.std.proofs.Common.{◌≡◌, ◌≤◌, ◌++◌, length}
use Rattle.ids.specs.Vectors.{most_named}
use Rattle.wire.specs.Deltas.{changed}
use Rattle.wire.proofs.deltas.changed.Given as goal

abbrev pub invariant-loop-id : goal.invariant-loop-id
invariant-loop-id l = record {
  few : length l.vector ≤ most_named;
  left : l.vector ++ l.id-iterator ≡ changed l.base l.changes;
}
