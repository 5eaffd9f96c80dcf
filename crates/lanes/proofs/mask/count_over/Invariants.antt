use Rattle.std.proofs.Common.{◌≡◌, ◌+◌, ◌*◌, ◌/◌, length, take}
use Rattle.lanes.specs.Kernels.{over, count_true}
use Rattle.lanes.proofs.mask.count_over.Given as goal

abbrev pub invariant-loop-index : goal.invariant-loop-index
invariant-loop-index l = l.count ≡ count_true (take (8 * l.index) (over l.counters l.bounds))

abbrev pub invariant-loop-index-2 : goal.invariant-loop-index-2
invariant-loop-index-2 l = l.count ≡ count_true (take (8 * (length l.counters / 8) + l.index) (over l.counters l.bounds))
