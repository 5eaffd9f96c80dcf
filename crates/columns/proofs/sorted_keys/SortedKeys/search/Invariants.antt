use Rattle.std.proofs.Common.{◌≤◌, ◌<◌, ◌-◌, ◌+◌, ◌^◌, ℕ}
use Rattle.semantics.specs.Elements.{name_cmp}
use Rattle.columns.proofs.ShortKeys.{AreShort}
use Rattle.columns.proofs.Sought.{IsSought}
use Rattle.columns.proofs.sorted_keys.SortedKeys.search.Given as goal

abbrev pub invariant-loop-low : goal.invariant-loop-low
invariant-loop-low l = record {
  sought : IsSought name_cmp l.key l.self.keys l.low l.high;
  order : AreShort l.self.keys l.self.numbers l.order;
  most : l.high ≤ l.low + l.most;
  probes : (k : ℕ) → l.fn.span.high < 2 ^ k → (j : ℕ) × (l.most < 2 ^ j) × (l.probes + j ≤ l.fn.probes + k);
  counted : l.fn.probes ≤ l.probes;
  any : l.high - l.low < l.fn.span.high - l.fn.span.low → l.fn.probes < l.probes;
}

abbrev pub decreases-loop-low : goal.decreases-loop-low
decreases-loop-low l = l.high - l.low
