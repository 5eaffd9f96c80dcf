use Rattle.std.proofs.Common.{◌≡◌, ◌++◌, drop}
use Rattle.std.specs.List.{items_where_true}
use Rattle.columns.proofs.block.push_shown_among.Given as goal

abbrev pub invariant-loop-at : goal.invariant-loop-at
invariant-loop-at l = l.items.items ++ items_where_true (drop l.at l.flags) (drop l.at l.ids)
    ≡ l.initial.items.items ++ items_where_true l.flags l.ids
