use Rattle.std.proofs.Common.{◌≡◌}
use Rattle.notebook.proofs.exchange.submit_all.Given as goal

-- a receipt reads nothing
abbrev pub invariant-loop : goal.invariant-loop
invariant-loop g l = l.client.seen ≡ l.fn.client.seen
