use Rattle.std.proofs.Common.{◌≡◌, ◌*◌}
use Rattle.lanes.proofs.Raised.{raised}
use Rattle.lanes.proofs.maxima.max_into.Given as goal

abbrev pub invariant-loop-index : goal.invariant-loop-index
invariant-loop-index l = l.a ≡ raised (8 * l.index) l.fn.a l.b

abbrev pub invariant-loop-index-2 : goal.invariant-loop-index-2
invariant-loop-index-2 l = l.a ≡ raised l.index l.fn.a l.b
