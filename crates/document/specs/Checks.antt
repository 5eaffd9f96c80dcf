-- What private functions look at when they test a received operation, by position in the log. None of it is a rule.
use Rattle.std.specs.Prelude.{ℕ, Bool, false, not, List, Option, Some, None}
use Rattle.semantics.specs.Ids.{OpId}
use Rattle.semantics.specs.Vectors.{Vector, is_at_most}
use Rattle.semantics.specs.Entries.{Entry as TheEntry, entry_at, stamped_in}
use Rattle.oplog.specs.Logs.{position_of}

-- the entry has a vector that isn't at most v
abbrev pub is_beyond : Vector → Option TheEntry → Bool
is_beyond v None = false
is_beyond v (Some e) = not (is_at_most (stamped_in e).vector v)

-- the entry at a position, if there is a position
abbrev pub entry_there : Option ℕ → List TheEntry → Option TheEntry
entry_there None G = None
entry_there (Some n) G = entry_at n G

-- the operation with this id has a vector that isn't at most v
abbrev pub opens : List TheEntry → Vector → OpId → Bool
opens G v a = is_beyond v (entry_there (position_of a G) G)
