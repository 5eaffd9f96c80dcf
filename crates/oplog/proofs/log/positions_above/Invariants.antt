use Rattle.std.proofs.Common.{◌≡◌, ◌++◌, drop, map}
use Rattle.semantics.specs.Vectors.{at}
use Rattle.oplog.specs.Logs.{numbers_above, numbers_of}
use Rattle.oplog.proofs.log.positions_above.Given as goal

abbrev pub invariant-loop-index : goal.invariant-loop-index
invariant-loop-index l = l.above.items
    ++ numbers_above (drop l.index (map (at l.vector) l.table.numbers)) (numbers_of (drop l.index l.positions))
    ≡ numbers_above (map (at l.vector) l.table.numbers) (numbers_of l.positions)
