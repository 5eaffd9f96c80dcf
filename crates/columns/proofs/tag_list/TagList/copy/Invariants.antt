-- The first entries are copied.
use Rattle.std.proofs.Common.{◌≡◌, take}
use Rattle.columns.proofs.tag_list.TagList.copy.Given as goal

abbrev pub invariant-loop-position : goal.invariant-loop-position
invariant-loop-position l = l.tags.items ≡ take l.position l.fn.self.entries
