use Rattle.std.proofs.Common.{◌≡◌, ◌++◌, ◌<◌, ◌-◌}
use Rattle.bench.specs.Workers.{Shows, assignments, requests_by}
use Rattle.bench.proofs.working.worker.Given as goal

-- all numbers so far were submitted, and the last one was read back
abbrev pub invariant-loop-number : goal.invariant-loop-number
invariant-loop-number g l = record {
  requests : requests_by l.client ≡ requests_by l.fn.client ++ assignments l.fn.key l.number;
  read : 0 < l.number → Shows l.client.seen l.fn.key (l.number - 1);
  same : l.client
      ≡ record l.fn.client {
        found_full = l.client.found_full;
        seen = l.client.seen;
        read = l.client.read;
        reads = l.client.reads;
        kept = l.client.kept;
      };
}
