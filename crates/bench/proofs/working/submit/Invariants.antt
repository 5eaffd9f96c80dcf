use Rattle.std.proofs.Common.{◌≡◌}
use Rattle.bench.proofs.working.submit.Given as goal

-- nothing was submitted yet, but the queue may have been full
abbrev pub invariant-loop : goal.invariant-loop
invariant-loop g l = record {
  same : l.client ≡ record l.fn.client { found_full = l.client.found_full };
}
