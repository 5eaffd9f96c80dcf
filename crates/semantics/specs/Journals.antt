-- What a journal keeps of a history, entry by entry.
use Rattle.std.specs.Prelude.{ℕ, List, drop, reverse}
use Rattle.semantics.specs.Ids.{OpId}
use Rattle.semantics.specs.Stamped.{Stamped}
use Rattle.semantics.specs.Making.{Command}
use Rattle.semantics.specs.Entries.{Entry, Own, Peer}

-- the entries from position n on, the oldest first
abbrev pub entries_from : ℕ → List Entry → List Entry
entries_from n G = drop n (reverse G)

-- what is kept of an entry: the command of an own one, with the id of what was made of it, or the operation that a peer sent
pub data Recorded : Type 0 where
  Commanded : OpId → Command → Recorded
  Received : Stamped → Recorded

-- the record of an entry: a client and its serials are of one run of an engine, and aren't kept
abbrev pub recorded : Entry → Recorded
recorded (Own client serial c s) = Commanded s.id c
recorded (Peer s) = Received s
