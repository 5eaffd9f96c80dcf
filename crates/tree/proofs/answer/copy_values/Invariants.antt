use Rattle.std.proofs.Common.{◌≡◌, take}
use Rattle.tree.proofs.answer.copy_values.Given as goal

abbrev pub invariant-loop-position : goal.invariant-loop-position
invariant-loop-position l = l.values.items ≡ take l.position l.register.entries
