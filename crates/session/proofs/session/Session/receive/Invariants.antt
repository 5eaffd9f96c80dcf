-- The operations of the lines that were taken are received.
use Rattle.std.proofs.Common.{◌≡◌, ◌≤◌, ◌+◌, length}
use Rattle.session.proofs.Receiving.{HasReceived}
use Rattle.session.proofs.session.Session.receive.Given as goal

abbrev pub decreases-loop-line : goal.decreases-loop-line
decreases-loop-line l = length l.lines.rest.now

abbrev pub invariant-loop-line : goal.invariant-loop-line
invariant-loop-line l = record {
  taken : l.lines.taken ≡ l.received.taken;
  within : l.lines.taken + length l.lines.rest.now ≤ length l.fn.bundle;
  all : HasReceived l.fn.self l.fn.bundle l.self l.reader l.lines.rest.now l.received.taken l.received.refused;
}
