use Rattle.std.proofs.Common.{◌≡◌, ◌++◌, suc, map, take, drop}
use Rattle.chunks.proofs.ends.add_one.Given as goal

abbrev pub invariant-loop-chunk : goal.invariant-loop-chunk
invariant-loop-chunk l = l.ends ≡ map suc (take l.chunk l.fn.ends) ++ drop l.chunk l.fn.ends
