-- The invariant of a session, between its calls.
use Rattle.std.specs.Prelude.{◌≡◌, ◌≤◌, ℕ, length}
use Rattle.semantics.specs.Entries.{IsAbove}
use Rattle.semantics.specs.Limits.{most_entries}
use Rattle.semantics.specs.Replica.{Replica}

-- a session with this number keeps the replica r: own entries are client 0's, and the next position is above each serial
pub record IsSession (own : ℕ) (r : Replica) : Type 0 where
  pub own_number : r.own ≡ own
  pub above : IsAbove 0 (length r.entries) r.entries
  pub few : length r.entries ≤ most_entries
