use Rattle.std.proofs.Common.{◌≡◌, ◌*◌, max, length, drop}
use Rattle.lanes.specs.Kernels.{greatest}
use Rattle.lanes.proofs.maxima.greatest.Given as goal

-- the lanes and what is left
abbrev pub invariant-loop-block : goal.invariant-loop-block
invariant-loop-block l = (length l.lanes ≡ 8) × (max (greatest l.lanes) (greatest (drop (8 * l.block-index) l.a)) ≡ greatest l.a)
