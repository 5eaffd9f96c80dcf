use Rattle.std.proofs.Common.{◌≡◌, drop}
use Rattle.ids.specs.Members.{are_distinct}
use Rattle.ids.proofs.members.are_distinct.Given as goal

-- what is left decides
abbrev pub invariant-loop-index : goal.invariant-loop-index
invariant-loop-index l = are_distinct (drop l.index l.numbers) ≡ are_distinct l.numbers
