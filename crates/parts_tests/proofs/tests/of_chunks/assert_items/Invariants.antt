use Rattle.std.proofs.Common.{◌≡◌}
use Rattle.parts_tests.proofs.tests.of_chunks.assert_items.Given as goal

abbrev pub invariant-loop-position : goal.invariant-loop-position
invariant-loop-position g l = l.reader ≡ l.numbers.items
