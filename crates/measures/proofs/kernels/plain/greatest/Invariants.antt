use Rattle.std.proofs.Common.{◌≡◌, max, drop}
use Rattle.lanes.specs.Kernels.{greatest}
use Rattle.measures.proofs.kernels.plain.greatest.Given as goal

abbrev pub invariant-loop-counter : goal.invariant-loop-counter
invariant-loop-counter l = max l.most (greatest (drop l.counter-index l.a)) ≡ greatest l.a
