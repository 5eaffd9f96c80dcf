-- With those that are left, all are there.
use Rattle.std.proofs.Common.{◌≡◌, ◌++◌, drop}
use Rattle.columns.proofs.replica_columns.push_from.Given as goal

abbrev pub invariant-loop-position : goal.invariant-loop-position
invariant-loop-position l = l.all.items ++ drop l.position l.entries ≡ l.initial.all.items ++ drop l.from l.entries
