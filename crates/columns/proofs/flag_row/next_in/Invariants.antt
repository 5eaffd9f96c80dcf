use Rattle.std.proofs.Common.{◌≡◌, ◌≤◌, ◌<◌, ◌-◌, ℕ, false, length}
use Rattle.std.specs.Prelude.{slice_index}
use Rattle.memchr.specs.Find.{is_byte}
use Rattle.columns.proofs.flag_row.next_in.Given as goal

abbrev pub invariant-loop-at : goal.invariant-loop-at
invariant-loop-at l = record {
  from : l.from ≤ l.at;
  within : l.at ≤ length l.bytes.items;
  passed : (i : ℕ) → l.from ≤ i → i < l.at → is_byte 1 (slice_index l.bytes.items i) ≡ false;
}

abbrev pub decreases-loop-at : goal.decreases-loop-at
decreases-loop-at l = length l.bytes.items - l.at
