-- The drain of what waits in a replica.
use Rattle.std.specs.Prelude.{◌≡◌, ◌+◌, ◌⊎◌, ℕ, zero, suc, min, cond, not, false, IsTrue, List, [], ◌∷◌, length, Option, Some, None}
use Rattle.std.specs.List.{filter}
use Rattle.semantics.specs.Ids.{OpId, is_same_id}
use Rattle.semantics.specs.Operations.{Operation}
use Rattle.ids.specs.declared.refusal.Refusal.{Refusal}
use Rattle.semantics.specs.LegalHistory.{IsAmong}
use Rattle.semantics.specs.Stamped.{Stamped}
use Rattle.semantics.specs.Faults.{is_ready}
use Rattle.semantics.specs.Making.{is_full}
use Rattle.semantics.specs.Entries.{Entry, Peer, stamped_entries}
use Rattle.semantics.specs.Joining.{check_fault}
use Rattle.semantics.specs.Replica.{Replica, operations}
use Rattle.semantics.specs.Delivery.{deliver}

-- the first that is ready, and so the smallest, since what waits is in ascending order of id
abbrev pub first_ready : List Operation → List Stamped → Option Stamped
first_ready H [] = None
first_ready H (s ∷ W) = cond (is_ready H s) (Some s) (first_ready H W)

-- what waits, without the operation with this id
abbrev pub without_waiting : OpId → List Stamped → List Stamped
without_waiting a W = filter (λ s. not (is_same_id s.id a)) W

-- what leaves is appended, or dropped and counted
abbrev pub taken_with : Replica → Stamped → Option Refusal → Replica
taken_with r s None = record r { entries = Peer s ∷ r.entries; waiting = without_waiting s.id r.waiting }
taken_with r s (Some f) = record r { waiting = without_waiting s.id r.waiting; dropped = suc r.dropped }

-- the replica after a ready one left
abbrev pub taken : Replica → Stamped → Replica
taken r s = taken_with r s (check_fault r.members (stamped_entries r.entries) s)

-- r where none is ready
abbrev pub at_ready : Option Stamped → Replica → (Stamped → Replica) → Replica
at_ready None r f = r
at_ready (Some s) r f = f s

-- a drain of n turns
abbrev pub drain_for : ℕ → Replica → Replica
drain_for zero r = r
drain_for (suc n) r = cond (is_full r.entries) r (at_ready (first_ready (operations r) r.waiting) r (λ s. drain_for n (taken r s)))

-- while the history isn't full and one is ready, the smallest ready one leaves
abbrev pub drain : Replica → Replica
drain r = drain_for (length r.waiting) r

-- the count of dropped operations stops at the greatest number of 64 bits
abbrev pub counted : Replica → Replica
counted r = record r { dropped = min r.dropped 18446744073709551615 }

-- a delivery and the drain after it
abbrev pub receive : Replica → Stamped → Replica
receive r s = drain (deliver r s)

-- many deliveries, where the newest of the list comes last
abbrev pub receive_all : Replica → List Stamped → Replica
receive_all r [] = r
receive_all r (s ∷ M) = receive (receive_all r M) s

-- the entries with these of peers after them
abbrev pub with_peers : List Stamped → List Entry → List Entry
with_peers [] G = G
with_peers (s ∷ M) G = Peer s ∷ with_peers M G

-- some of what waited was appended, and each that left was appended or counted as dropped
pub record Drains (r d : Replica) : Type 0 where
  pub own : d.own ≡ r.own
  pub members : d.members ≡ r.members
  pub appended : List Stamped
  pub entries : d.entries ≡ with_peers appended r.entries
  pub waited : (s : Stamped) → IsAmong s appended → IsAmong s r.waiting
  pub waits : (s : Stamped) → IsAmong s d.waiting → IsAmong s r.waiting
  pub balance : length appended + d.dropped + length d.waiting ≡ r.dropped + length r.waiting

-- the history is full, or none that waits is ready
abbrev pub IsDrained : Replica → Type 0
IsDrained r = IsTrue (is_full r.entries) ⊎ ((s : Stamped) → IsAmong s r.waiting → is_ready (operations r) s ≡ false)
