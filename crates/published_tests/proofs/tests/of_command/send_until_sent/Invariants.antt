-- the same submission is to be sent, and nothing was sent yet
use Rattle.std.proofs.Common.{◌≡◌}
use Rattle.crossbeam_queue.specs.Passes.{view}
use Rattle.published_tests.proofs.tests.of_command.send_until_sent.Given as goal

abbrev pub invariant-loop : goal.invariant-loop
invariant-loop g l = record {
  submission : l.next.answer.value.submission ≡ l.fn.submission.answer.value.submission;
  from : (view l.sender.pass).from ≡ (view l.fn.sender.pass).from;
  put : (view l.sender.pass).put ≡ (view l.fn.sender.pass).put;
}
