use Rattle.std.proofs.Common.{◌≡◌}
use Rattle.bench.proofs.working.wait_at.Given as goal

-- the client has read, and nothing else
abbrev pub invariant-loop : goal.invariant-loop
invariant-loop g l = record {
  same : l.client ≡ record l.fn.client { seen = l.client.seen; read = l.client.read; reads = l.client.reads };
}
