use Rattle.std.proofs.Common.{◌<◌, length}
use Rattle.chunks.proofs.ends.back_to.Given as goal

abbrev pub invariant-loop-chunk : goal.invariant-loop-chunk
invariant-loop-chunk l = l.chunk < length l.ends

abbrev pub decreases-loop-chunk : goal.decreases-loop-chunk
decreases-loop-chunk l = l.chunk
