-- What was taken is replayed.
use Rattle.std.proofs.Common.{◌≡◌, length, take}
use Rattle.records.specs.wire.Lines.{cut}
use Rattle.peer_sync.proofs.TakenLines.{HasTaken}
use Rattle.records.specs.Replays.{BringsBackLines}
use Rattle.journal.proofs.replaying.Replay.take.Given as goal

abbrev pub decreases-loop-line : goal.decreases-loop-line
decreases-loop-line g l = length l.lines.rest.now

abbrev pub invariant-loop-line : goal.invariant-loop-line
invariant-loop-line g l = record {
  taken : l.lines.taken ≡ l.replayed.entries;
  bytes : HasTaken l.fn.journal l.lines.rest.now l.replayed.entries l.replayed.bytes;
  brought : BringsBackLines l.fn.client.seen (take l.replayed.entries (cut l.fn.journal).lines) l.client.seen;
}
