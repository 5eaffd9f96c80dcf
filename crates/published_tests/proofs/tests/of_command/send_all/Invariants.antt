-- this many submissions were sent
use Rattle.std.proofs.Common.{◌≡◌, length}
use Rattle.crossbeam_queue.specs.Passes.{view}
use Rattle.published_tests.proofs.tests.of_command.send_all.Given as goal

abbrev pub invariant-loop-sent : goal.invariant-loop-sent
invariant-loop-sent g l = record {
  from : (view l.sender.pass).from ≡ 0;
  put : length (view l.sender.pass).put ≡ l.sent;
}
