use Rattle.std.proofs.Common.{◌≡◌}
use Rattle.lanes.proofs.Raised.{raised}
use Rattle.measures.proofs.kernels.plain.max_into.Given as goal

abbrev pub invariant-loop-index : goal.invariant-loop-index
invariant-loop-index l = l.a ≡ raised l.index l.fn.a l.b
