use Rattle.std.proofs.Common.{◌≡◌}
use Rattle.bench.specs.Workers.{requests_by}
use Rattle.bench.proofs.working.await_answer.Given as goal

-- nothing was submitted
abbrev pub invariant-loop : goal.invariant-loop
invariant-loop g l = record {
  requests : requests_by l.client ≡ requests_by l.fn.client;
  same : l.client ≡ record l.fn.client { seen = l.client.seen; kept = l.client.kept };
}
