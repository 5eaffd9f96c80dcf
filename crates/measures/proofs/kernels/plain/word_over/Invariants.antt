use Rattle.std.proofs.Common.{◌≡◌, take}
use Rattle.std.specs.Simd.Lanes.{mask_l}
use Rattle.lanes.specs.Kernels.{over}
use Rattle.measures.proofs.kernels.plain.word_over.Given as goal

abbrev pub invariant-loop-index : goal.invariant-loop-index
invariant-loop-index l = l.word ≡ mask_l (take l.index (over l.counters l.bounds))
