use Rattle.std.proofs.Common.{◌≡◌, ◌+◌, length, drop}
use Rattle.std.specs.List.{items_where_true}
use Rattle.columns.proofs.block.count_shown.Given as goal

abbrev pub invariant-loop-at : goal.invariant-loop-at
invariant-loop-at l = l.shown + length (items_where_true (drop l.at l.flags) (drop l.at l.ids)) ≡ length (items_where_true l.flags l.ids)
