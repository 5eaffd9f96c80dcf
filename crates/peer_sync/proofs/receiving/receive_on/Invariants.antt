-- The client has submitted the operations of the lines that were taken.
use Rattle.std.proofs.Common.{◌≡◌, ◌⊎◌, ◌≤◌, ◌+◌, ◌==◌, cond, length}
use Rattle.peer_sync.proofs.Submissions.{HasSubmitted}
use Rattle.peer_sync.proofs.TakenLines.{HasTaken}
use Rattle.peer_sync.proofs.receiving.receive_on.Given as goal

abbrev pub decreases-loop-line : goal.decreases-loop-line
decreases-loop-line g l = length l.lines.rest.now

abbrev pub invariant-loop-line : goal.invariant-loop-line
invariant-loop-line g l = record {
  taken : l.lines.taken ≡ l.received.submitted;
  sent : HasSubmitted l.fn.client l.fn.reader l.fn.bundle l.client l.reader l.lines.rest.now l.received.submitted;
  bytes : HasTaken l.fn.bundle l.lines.rest.now l.received.submitted l.received.bytes;
  first : l.received.first_serial ≡ cond (l.received.submitted == 0) 0 (length l.fn.client.kept + 1);
  serials : (l.received.submitted ≡ 0) ⊎ (length l.client.kept ≤ l.client.serials);
}
