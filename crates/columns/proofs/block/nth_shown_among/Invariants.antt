use Rattle.std.proofs.Common.{◌≡◌, drop, slice_get}
use Rattle.std.specs.List.{items_where_true}
use Rattle.columns.proofs.block.nth_shown_among.Given as goal

abbrev pub invariant-loop-at : goal.invariant-loop-at
invariant-loop-at l = slice_get (items_where_true l.flags l.ids) l.fn.index
    ≡ slice_get (items_where_true (drop l.at l.flags) (drop l.at l.ids)) l.left
