-- The counters that were set are those that are named.
use Rattle.std.proofs.Common.{◌≡◌, ◌<◌, ℕ, length, get_or}
use Rattle.semantics.specs.Vectors.{at}
use Rattle.version.proofs.vector.VersionVector.name.Given as goal

abbrev pub invariant-loop-index : goal.invariant-loop-index
invariant-loop-index l = record {
  width : length l.counters.items ≡ length l.fn.self;
  named : (i : ℕ) → i < l.index → get_or l.counters.items i 0 ≡ at l.ids (get_or l.table.numbers i 0);
}
