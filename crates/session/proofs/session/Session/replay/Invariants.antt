-- What was taken is replayed.
use Rattle.std.proofs.Common.{◌≡◌, None, length, take}
use Rattle.records.specs.wire.Lines.{cut}
use Rattle.records.specs.Replays.{BringsBackLines}
use Rattle.session.proofs.TakenLines.{HasTaken}
use Rattle.session.proofs.session.Session.replay.Given as goal

abbrev pub decreases-loop-line : goal.decreases-loop-line
decreases-loop-line l = length l.lines.rest.now

abbrev pub invariant-loop-line : goal.invariant-loop-line
invariant-loop-line l = record {
  taken : l.lines.taken ≡ l.replayed.entries;
  goes_on : l.replayed.stopped ≡ None;
  bytes : HasTaken l.fn.journal l.lines.rest.now l.replayed.entries l.replayed.bytes;
  brought : BringsBackLines l.fn.self.entries (take l.replayed.entries (cut l.fn.journal).lines) l.self.entries;
  own : l.self.own ≡ l.fn.self.own;
}
