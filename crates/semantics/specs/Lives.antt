-- Lives of many replicas: runs in which a replica may end at any moment, and resume from a journal, which is any beginning of its history
-- that has all that was handed out.
use Rattle.std.specs.Prelude.{◌≡◌, ℕ, ◌≤◌, cond, ◌==◌, List, [], length, map, Ok}
use Rattle.semantics.specs.LegalHistory.{IsAmong}
use Rattle.semantics.specs.NamedIds.{NamesAll}
use Rattle.semantics.specs.Stamped.{Stamped, operation_after}
use Rattle.semantics.specs.Making.{Command, make}
use Rattle.semantics.specs.Entries.{Entry, IsAbove, IsEntryHistory, first_entries, stamped_entries}
use Rattle.semantics.specs.Replica.{Replica, operations, commit_own}
use Rattle.semantics.specs.Drain.{receive}
use Rattle.semantics.specs.Runs.{Replicas, opened, put_replica}
use Rattle.semantics.specs.Journals.{recorded}

-- the replica of each number, and how many entries of each history are stored: those may be handed out
pub record Lives : Type 0 where
  pub now : Replicas
  pub stored : ℕ → ℕ

-- n in the place of p
abbrev pub put_count : ℕ → ℕ → (ℕ → ℕ) → ℕ → ℕ
put_count p n counts q = cond (q == p) n (counts q)

-- E is a history of replica p with the records of the first n entries of G, as a journal of these brings it back
pub record BringsBack (p n : ℕ) (G E : List Entry) : Type 0 where
  pub history : IsEntryHistory p E
  pub records : map recorded E ≡ map recorded (first_entries n G)

-- r after it ended and resumed from these entries: what waited is gone, and comes again
abbrev pub gone_on : Replica → List Entry → Replica
gone_on r E = record r { entries = E; waiting = []; dropped = 0 }

-- what may be reached from new replicas, where what comes was stored by whoever sent it
pub data IsLived (members : ℕ → List ℕ) : Lives → Type 0 where
  Opened : IsLived members (record { now = opened members; stored = λ p. 0 })
  Makes : (L : Lives) → IsLived members L → (p client serial : ℕ) (c : Command) (s : Stamped) → NamesAll (operations (L.now p)) s.vector
      → make (operations (L.now p)) p c ≡ Ok (operation_after (operations (L.now p)) s)
      → IsAbove client serial (L.now p).entries
      → IsLived members (record L { now = put_replica p (commit_own (L.now p) client serial c s) L.now })
  Stores : (L : Lives) → IsLived members L → (p n : ℕ) → L.stored p ≤ n → n ≤ length (L.now p).entries
      → IsLived members (record L { stored = put_count p n L.stored })
  Comes : (L : Lives) → IsLived members L → (p q : ℕ) (s : Stamped)
      → IsAmong s (stamped_entries (first_entries (L.stored q) (L.now q).entries))
      → IsLived members (record L { now = put_replica p (receive (L.now p) s) L.now })
  GoesOn : (L : Lives) → IsLived members L → (p n : ℕ) (E : List Entry) → L.stored p ≤ n → n ≤ length (L.now p).entries
      → BringsBack p n (L.now p).entries E → IsLived members (record L { now = put_replica p (gone_on (L.now p) E) L.now })
