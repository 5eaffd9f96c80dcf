-- The pairs so far are of replicas up to the last, and there is at most one per turn.
use Rattle.std.proofs.Common.{◌≤◌, suc, length}
use Rattle.ids.specs.Vectors.{AreBelow}
use Rattle.wire.proofs.scan.Scan.vector.Given as goal

abbrev pub invariant-loop : goal.invariant-loop
invariant-loop l = record {
  below : AreBelow (suc l.last) l.vector;
  few : length l.vector ≤ l.counter;
}
