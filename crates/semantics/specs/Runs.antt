-- Runs of many replicas: each makes operations of its own, and any operation of any history may reach any replica, repeatedly, in any order
-- or never.
use Rattle.std.specs.Prelude.{◌≡◌, ℕ, cond, ◌==◌, List, [], Ok}
use Rattle.semantics.specs.LegalHistory.{IsAmong}
use Rattle.semantics.specs.NamedIds.{NamesAll}
use Rattle.semantics.specs.Stamped.{Stamped, operation_after}
use Rattle.semantics.specs.Making.{Command, make}
use Rattle.semantics.specs.Entries.{IsAbove, stamped_entries}
use Rattle.semantics.specs.Replica.{Replica, operations, commit_own}
use Rattle.semantics.specs.Drain.{receive}

-- the replica of each number
abbrev pub Replicas : Type 0
Replicas = ℕ → Replica

-- r in the place of p
abbrev pub put_replica : ℕ → Replica → Replicas → Replicas
put_replica p r W q = cond (q == p) r (W q)

-- new replicas, each with its members
abbrev pub opened : (ℕ → List ℕ) → Replicas
opened members p = record { own = p; members = members p; entries = []; waiting = []; dropped = 0 }

-- what may be reached from new replicas
pub data IsReached (members : ℕ → List ℕ) : Replicas → Type 0 where
  Opened : IsReached members (opened members)
  Makes : (W : Replicas) → IsReached members W → (p client serial : ℕ) (c : Command) (s : Stamped) → NamesAll (operations (W p)) s.vector
      → make (operations (W p)) p c ≡ Ok (operation_after (operations (W p)) s)
      → IsAbove client serial (W p).entries → IsReached members (put_replica p (commit_own (W p) client serial c s) W)
  Comes : (W : Replicas) → IsReached members W → (p q : ℕ) (s : Stamped) → IsAmong s (stamped_entries (W q).entries)
      → IsReached members (put_replica p (receive (W p) s) W)
