use Rattle.std.proofs.Common.{◌≤◌, ◌-◌, length}
use Rattle.columns.proofs.Above.{AreAbove, AreNotAbove}
use Rattle.columns.proofs.numbers.first_above.Given as goal

abbrev pub invariant-loop-low : goal.invariant-loop-low
invariant-loop-low l = record {
  before : AreNotAbove l.counter l.entries.items l.low;
  from : AreAbove l.counter l.entries.items l.high;
  ordered : l.low ≤ l.high;
  within : l.high ≤ length l.entries.items;
}

abbrev pub decreases-loop-low : goal.decreases-loop-low
decreases-loop-low l = l.high - l.low
