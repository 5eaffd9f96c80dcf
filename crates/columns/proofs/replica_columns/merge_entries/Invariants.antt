-- What is merged, and what is left of both, is all.
use Rattle.std.proofs.Common.{◌≡◌, ◌++◌, drop}
use Rattle.columns.specs.ReplicaColumns.{put_each}
use Rattle.columns.proofs.replica_columns.merge_entries.Given as goal

abbrev pub invariant-loop-position : goal.invariant-loop-position
invariant-loop-position l = l.all.items ++ put_each (drop l.position l.own) (drop l.next l.others) ≡ put_each l.own l.others
