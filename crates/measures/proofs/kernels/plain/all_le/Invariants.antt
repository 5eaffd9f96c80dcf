use Rattle.std.proofs.Common.{◌≡◌, leb, drop}
use Rattle.std.specs.Cmp.Lexicographic.{pointwise}
use Rattle.measures.proofs.kernels.plain.all_le.Given as goal

-- what is left decides
abbrev pub invariant-loop-index : goal.invariant-loop-index
invariant-loop-index l = pointwise leb (drop l.index l.a) (drop l.index l.b) ≡ pointwise leb l.a l.b
