-- What is sent to peers: what was called stored.
use Rattle.std.specs.Prelude.{ℕ, List}
use Rattle.semantics.specs.Entries.{Entry, first_entries}

-- the number of the engine, the history of it that was seen and the one that was read last, and how many of its entries are called stored
pub record Sending : Type 0 where
  pub own : ℕ
  pub seen : List Entry
  pub read : List Entry
  pub stored : ℕ

-- the entries that are called stored
abbrev pub stored_of : Sending → List Entry
stored_of o = first_entries o.stored o.seen
