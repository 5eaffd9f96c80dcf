-- What is left decides.
use Rattle.std.proofs.Common.{◌≡◌, drop}
use Rattle.ids.specs.Members.{is_member}
use Rattle.columns.specs.ReplicaColumns.{replicas_of}
use Rattle.columns.proofs.replica_columns.search.Given as goal

abbrev pub invariant-loop-place : goal.invariant-loop-place
invariant-loop-place l = is_member (drop l.place (replicas_of l.columns)) l.replica ≡ is_member (replicas_of l.columns) l.replica
