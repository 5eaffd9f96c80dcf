use Rattle.std.proofs.Common.{◌≡◌, take}
use Rattle.lanes.specs.Kernels.{over, count_true}
use Rattle.measures.proofs.kernels.plain.count_over.Given as goal

abbrev pub invariant-loop-index : goal.invariant-loop-index
invariant-loop-index l = l.count ≡ count_true (take l.index (over l.counters l.bounds))
