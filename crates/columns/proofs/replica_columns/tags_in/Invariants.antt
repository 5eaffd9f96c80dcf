-- With those that are left, all are there.
use Rattle.std.proofs.Common.{◌≡◌, ◌++◌, drop}
use Rattle.columns.proofs.Merged.{tagged_run}
use Rattle.columns.proofs.replica_columns.tags_in.Given as goal

abbrev pub invariant-loop-position : goal.invariant-loop-position
invariant-loop-position l = l.tags.items ++ tagged_run l.column.replica l.column.tag (drop l.position l.column.counters.items)
    ≡ tagged_run l.column.replica l.column.tag l.column.counters.items
