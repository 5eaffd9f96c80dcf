use Rattle.std.proofs.Common.{ℕ, List}
use Rattle.semantics.specs.Ids.{OpId}
use Rattle.slab.specs.Slab.{SameValues}
use Rattle.inbox.specs.Awaiting.{AreAwaiting}
use Rattle.inbox.proofs.waits.Waits.move_met.Given as goal

abbrev pub invariant-loop : goal.invariant-loop
invariant-loop l = record {
  kept : (es : List (OpId × ℕ)) → AreAwaiting l.fn.ops es l.fn.self → AreAwaiting l.ops es l.self;
  same : SameValues l.fn.ops l.ops;
}
