use Rattle.std.proofs.Common.{◌<◌, ◌≤◌, ◌-◌, length}
use Rattle.chunks.specs.Chunks.{start_of}
use Rattle.chunks.proofs.ends.find.Given as goal

abbrev pub invariant-loop-chunk : goal.invariant-loop-chunk
invariant-loop-chunk l = record {
  inside : l.chunk < length l.ends;
  from : start_of l.ends l.chunk ≤ l.position;
}

abbrev pub decreases-loop-chunk : goal.decreases-loop-chunk
decreases-loop-chunk l = length l.ends - l.chunk
