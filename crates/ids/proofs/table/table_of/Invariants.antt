-- The numbers so far have joined.
use Rattle.std.proofs.Common.{◌≡◌, take}
use Rattle.ids.proofs.table.table_of.Given as goal

abbrev pub invariant-loop-number : goal.invariant-loop-number
invariant-loop-number l = l.table.numbers ≡ take l.number-index l.numbers
