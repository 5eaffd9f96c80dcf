use Rattle.std.proofs.Common.{◌≡◌, ◌+◌, ◌*◌, length, take}
use Rattle.std.specs.Simd.Lanes.{mask_l}
use Rattle.lanes.specs.Kernels.{over}
use Rattle.lanes.proofs.mask.word_over.Given as goal

abbrev pub invariant-loop-index : goal.invariant-loop-index
invariant-loop-index l = l.word ≡ mask_l (take (8 * l.index) (over l.counters l.bounds))

abbrev pub invariant-loop-index-2 : goal.invariant-loop-index-2
invariant-loop-index-2 l = l.word ≡ mask_l (take (8 * length l.blocks + l.index) (over l.counters l.bounds))
