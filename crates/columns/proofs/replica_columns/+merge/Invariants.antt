-- Each half has fewer columns.
use Rattle.std.proofs.Common.{length}
use Rattle.columns.proofs.replica_columns.+merge.Given as goal

abbrev pub decreases-merge : goal.decreases-merge
decreases-merge l = length l.columns.now
