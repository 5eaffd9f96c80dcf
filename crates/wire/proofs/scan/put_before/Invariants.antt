use Rattle.std.proofs.Common.{length}
use Rattle.wire.proofs.scan.put_before.Given as goal

abbrev pub decreases-loop-first : goal.decreases-loop-first
decreases-loop-first l = length l.rest
