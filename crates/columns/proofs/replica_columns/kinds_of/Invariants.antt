-- The kinds so far, and the columns that are left, decide.
use Rattle.std.proofs.Common.{◌≡◌, ◌||◌, drop}
use Rattle.semantics.specs.Elements.{Tag as TheTag}
use Rattle.columns.specs.Kinds.{has_kind}
use Rattle.columns.specs.ReplicaColumns.{standing, stands_in}
use Rattle.columns.proofs.replica_columns.kinds_of.Given as goal

abbrev pub invariant-loop-place : goal.invariant-loop-place
invariant-loop-place l = (t : TheTag) → (has_kind l.all t || stands_in t (standing (drop l.place l.columns)))
    ≡ (has_kind l.fn.kinds t || stands_in t (standing l.columns))
