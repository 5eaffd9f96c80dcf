use Rattle.semantics.specs.WorldHistory.{BeginsWith}
use Rattle.notebook.proofs.exchange.receipt_of.Given as goal

-- what was seen stays
abbrev pub invariant-loop-number : goal.invariant-loop-number
invariant-loop-number g l = BeginsWith l.client.seen l.fn.client.seen
