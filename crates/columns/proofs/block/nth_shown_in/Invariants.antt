use Rattle.std.proofs.Common.{◌≡◌, ◌≤◌, ◌-◌, drop, length, slice_get}
use Rattle.std.specs.List.{items_where_true}
use Rattle.columns.proofs.block.nth_shown_in.Given as goal

abbrev pub decreases-loop-at : goal.decreases-loop-at
decreases-loop-at l = length l.ids - l.at

abbrev pub invariant-loop-at : goal.invariant-loop-at
invariant-loop-at l = record {
  within : l.at ≤ length l.ids;
  rest : slice_get (items_where_true l.flags l.ids) l.fn.index
      ≡ slice_get (items_where_true (drop l.at l.flags) (drop l.at l.ids)) l.left;
}
