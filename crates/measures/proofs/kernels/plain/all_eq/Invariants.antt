use Rattle.std.proofs.Common.{◌≡◌, eqb, drop}
use Rattle.std.specs.Cmp.Lexicographic.{pointwise}
use Rattle.measures.proofs.kernels.plain.all_eq.Given as goal

-- what is left decides
abbrev pub invariant-loop-index : goal.invariant-loop-index
invariant-loop-index l = pointwise eqb (drop l.index l.a) (drop l.index l.b) ≡ pointwise eqb l.a l.b
