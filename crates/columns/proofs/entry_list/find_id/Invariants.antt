use Rattle.std.proofs.Common.{◌-◌}
use Rattle.semantics.specs.Ids.{id_cmp}
use Rattle.columns.specs.Rank.{keys_of}
use Rattle.columns.specs.Entries.{entries_of}
use Rattle.columns.proofs.Sought.{IsSought}
use Rattle.columns.proofs.entry_list.find_id.Given as goal

abbrev pub invariant-loop-low : goal.invariant-loop-low
invariant-loop-low g l = IsSought id_cmp l.id (keys_of (entries_of l.entries.items)) l.low l.high

abbrev pub decreases-loop-low : goal.decreases-loop-low
decreases-loop-low g l = l.high - l.low
