-- The delivery of an operation to a replica.
use Rattle.std.specs.Prelude.{ℕ, ◌-◌, Bool, true, false, cond, ◌||◌, ◌==◌, nat_lt, List, [], ◌∷◌, length, Option, Some, None}
use Rattle.std.specs.List.{list_any}
use Rattle.semantics.specs.Ids.{OpId, is_same_id, is_smaller_id}
use Rattle.ids.specs.declared.refusal.Refusal.{Refusal}
use Rattle.ids.specs.declared.refusal.Refusal.TheVariants.{HistoryFull, InboxFull, OwnName}
use Rattle.semantics.specs.Limits.{most_waiting}
use Rattle.semantics.specs.LegalHistory.{has_id}
use Rattle.semantics.specs.Stamped.{Stamped}
use Rattle.semantics.specs.Faults.{alone_fault, is_ready}
use Rattle.semantics.specs.Making.{is_full}
use Rattle.semantics.specs.Entries.{stamped_entries}
use Rattle.semantics.specs.Joining.{check_fault}
use Rattle.semantics.specs.Replica.{Replica, operations}

-- the answer to a delivery
pub data Delivered : Type 0 where
  Kept : Delivered
  Known : Delivered
  NotKept : Refusal → Delivered

-- an operation with this id waits
abbrev pub is_waiting : List Stamped → OpId → Bool
is_waiting W a = list_any (λ s. is_same_id s.id a) W

-- s goes before the first that is greater
abbrev pub put_waiting : Stamped → List Stamped → List Stamped
put_waiting s [] = s ∷ []
put_waiting s (x ∷ W) = cond (is_smaller_id s.id x.id) (s ∷ x ∷ W) (x ∷ put_waiting s W)

-- kept, where it has no fault
abbrev pub kept_unless : Option Refusal → Delivered
kept_unless None = Kept
kept_unless (Some f) = NotKept f

-- as many wait as may: there is one more slot for a ready operation
abbrev pub is_crowded : (ready : Bool) → (waiting : ℕ) → Bool
is_crowded ready n = nat_lt (cond ready most_waiting (most_waiting - 1)) n

-- the answer to what is ready, and to what is not
abbrev pub room_answer : Replica → Stamped → Delivered
room_answer r s = cond (is_ready (operations r) s)
    (cond (is_crowded true (length r.waiting)) (NotKept InboxFull) (kept_unless (check_fault r.members (stamped_entries r.entries) s)))
    (cond (is_crowded false (length r.waiting)) (NotKept InboxFull) Kept)

-- the answer to an operation that passed the tests that need no history, and is neither applied nor waits
abbrev pub answer_to_new : Replica → Stamped → Delivered
answer_to_new r s =
    cond (s.id.replica == r.own) (NotKept OwnName)
    (cond (is_full r.entries) (NotKept HistoryFull) (room_answer r s))

-- the answer after the tests that need no history
abbrev pub answer_after : Replica → Stamped → Option Refusal → Delivered
answer_after r s (Some f) = NotKept f
answer_after r s None = cond (has_id (operations r) s.id || is_waiting r.waiting s.id) Known (answer_to_new r s)

-- the first that holds, in the order of the tests
abbrev pub answer_to : Replica → Stamped → Delivered
answer_to r s = answer_after r s (alone_fault s)

-- what is kept waits; every other answer leaves the replica as it was
abbrev pub kept_by : Replica → Stamped → Delivered → Replica
kept_by r s Kept = record r { waiting = put_waiting s r.waiting }
kept_by r s _ = r

-- the replica after a delivery
abbrev pub deliver : Replica → Stamped → Replica
deliver r s = kept_by r s (answer_to r s)
