use Rattle.std.proofs.Common.{◌≡◌, ℕ, ◌<◌, get_or}
use Rattle.lanes.specs.Kernels.{over, word_at}
use Rattle.measures.proofs.kernels.plain.mask_over.Given as goal

-- the words so far
abbrev pub invariant-loop-index : goal.invariant-loop-index
invariant-loop-index l = (w : ℕ) → w < l.index → get_or l.out w 0 ≡ word_at (over l.counters l.bounds) w
