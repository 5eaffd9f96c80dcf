-- No history has more operations than one may hold, and a replica whose history is full keeps what waits and refuses what is new.
use Rattle.std.proofs.Common.{◌≡◌, ◌⊎◌, inl, inr, ℕ, zero, suc, ◌<◌, ◌≤◌, Bool, true, false, cond, ◌||◌, ◌==◌, nat_lt, List, ◌∷◌, length}
use Rattle.std.proofs.Common.{Option, Some, None, Result, Ok, Err, refl, sym, ap, ◌∙◌, true≢false, arith}
use Rattle.std.proofs.lemmas.Bool.{or_from, ltb-false, le-ltb, false_from_ne_true, eqb-true}
use Rattle.ids.specs.declared.refusal.Refusal.{Refusal}
use Rattle.ids.specs.declared.refusal.Refusal.TheVariants.{HistoryFull, OwnName}
use Rattle.semantics.specs.Operations.{Operation}
use Rattle.semantics.specs.LegalHistory.{IsLegal, has_id}
use Rattle.semantics.specs.Stamped.{Stamped, operations_of, operation_after, IsLegalStamped}
use Rattle.semantics.specs.Faults.{alone_fault}
use Rattle.semantics.specs.Making.{Command, make, is_full}
use Rattle.semantics.specs.Entries.{stamped_entries}
use Rattle.semantics.specs.Joining.{check_fault}
use Rattle.semantics.specs.LegalAnswer.{Request, OfCommand, OfPeer, Submitted, RefusedAt}
use Rattle.semantics.specs.Replica.{Replica, operations}
use Rattle.semantics.specs.Delivery.{Delivered, Known, NotKept, is_waiting, room_answer, answer_after, answer_to, kept_by, deliver}
use Rattle.semantics.specs.Drain.{first_ready, taken_with, taken, at_ready, drain_for, drain, receive}
use Rattle.semantics.specs.OneWorld.{AreWithin}
use Rattle.semantics.specs.Exchange.{IsSettled}
use Rattle.semantics.specs.WriteSteps.{after_made, after_request, reply_requested, reply_delivered, after_submission, reply_to}
use Rattle.semantics.proofs.NamedOperations.{legal, means_first}
use Rattle.semantics.proofs.LawfulAlone.{no_fault_alone, length_operations, length_stamped}
use Rattle.semantics.proofs.ReceivedItems.{same_entries}

-- ---- no history is longer

-- the history holds no more operations than one may
abbrev pub IsShort : Replica → Type 0
IsShort r = length r.entries ≤ 1048576

taken_short : (r : Replica) (s : Stamped) → is_full r.entries ≡ false → IsShort (taken r s)
taken_short r s few = at_fault (check_fault r.members (stamped_entries r.entries) s)
  where
    room : length r.entries ≤ 1048575
    room = ltb-false 1048575 (length r.entries) few

    at_fault : (w : Option Refusal) → IsShort (taken_with r s w)
    at_fault None = omega (arith, room)
    at_fault (Some f) = omega (arith, room)

drained_short : (n : ℕ) (r : Replica) → IsShort r → IsShort (drain_for n r)
drained_short zero r h = h
drained_short (suc n) r h = at_full (λ q k. drained_short n q k) (is_full r.entries) refl
  where
    at_first : ((q : Replica) → IsShort q → IsShort (drain_for n q)) → is_full r.entries ≡ false → (w : Option Stamped)
        → IsShort (at_ready w r (λ s. drain_for n (taken r s)))
    at_first rest few None = h
    at_first rest few (Some s) = rest (taken r s) (taken_short r s few)

    at_full : ((q : Replica) → IsShort q → IsShort (drain_for n q)) → (b : Bool) → is_full r.entries ≡ b
        → IsShort (cond b r (at_ready (first_ready (operations r) r.waiting) r (λ s. drain_for n (taken r s))))
    at_full rest true e = h
    at_full rest false e = at_first rest e (first_ready (operations r) r.waiting)

length_applied : (r : Replica) → length (operations r) ≡ length r.entries
length_applied r = length_operations (stamped_entries r.entries) ∙ length_stamped r.entries

-- what is made is made after a history that isn't full
made_short : (r : Replica) (x : Submitted) (c : Command) → IsShort r → (m : Result Operation Refusal) → make (operations r) r.own c ≡ m
    → IsShort (after_made r x c m)
made_short r x c h (Err why) e = h
made_short r x c h (Ok o) e = at_full (is_full (operations r)) refl
  where
    at_full : (b : Bool) → is_full (operations r) ≡ b → suc (length r.entries) ≤ 1048576
    at_full true f = (let z = rw f at e in cc)
    at_full false f =
        let room : length (operations r) ≤ 1048575 = ltb-false 1048575 (length (operations r)) f in
        omega (arith, room, length_applied r)

pub item_short : (r : Replica) (x : Submitted) → IsShort r → IsShort (after_submission r x)
item_short r x h =
    let other = at_request x.request in
    elim (nat_lt (length r.entries) x.floor) as (λ b. IsShort (cond b r (after_request r x x.request))) [ true ↦ h | false ↦ other ]
  where
    at_request : (q : Request) → IsShort (after_request r x q)
    at_request (OfCommand c) = made_short r x c h (make (operations r) r.own c) refl
    at_request (OfPeer s) =
        let same = same_entries r s (answer_to r s) in
        drained_short (length (deliver r s).waiting) (deliver r s) (omega (arith, ap (length) same, h))

-- ---- a full history

drained_full : (n : ℕ) (r : Replica) → is_full r.entries ≡ true → drain_for n r ≡ r
drained_full zero r e = refl
drained_full (suc n) r e = ap (λ b. cond b r (at_ready (first_ready (operations r) r.waiting) r (λ s. drain_for n (taken r s)))) e

delivered_full : (r : Replica) (s : Stamped) → is_full r.entries ≡ true → deliver r s ≡ r
delivered_full r s e = at_alone (alone_fault s)
  where
    at_tests : (known own : Bool)
        → kept_by r s (cond known Known (cond own (NotKept OwnName) (cond (is_full r.entries) (NotKept HistoryFull) (room_answer r s)))) ≡ r
    at_tests true own = refl
    at_tests false true = refl
    at_tests false false = ap (λ b. kept_by r s (cond b (NotKept HistoryFull) (room_answer r s))) e

    at_alone : (w : Option Refusal) → kept_by r s (answer_after r s w) ≡ r
    at_alone (Some f) = refl
    at_alone None = at_tests (has_id (operations r) s.id || is_waiting r.waiting s.id) (s.id.replica == r.own)

received_full : (r : Replica) (s : Stamped) → is_full r.entries ≡ true → receive r s ≡ r
received_full r s e = ap drain (delivered_full r s e) ∙ drained_full (length r.waiting) r e

-- what waits stays
pub waits_full : (r : Replica) (x : Submitted) → is_full r.entries ≡ true → (after_submission r x).waiting ≡ r.waiting
waits_full r x e =
    let other = at_request x.request in
    elim (nat_lt (length r.entries) x.floor) as (λ b. (cond b r (after_request r x x.request)).waiting ≡ r.waiting) [
      | true ↦ refl
      | false ↦ other
    ]
  where
    at_made : (c : Command) (m : Result Operation Refusal) → (after_made r x c m).waiting ≡ r.waiting
    at_made c (Err why) = refl
    at_made c (Ok o) = refl

    at_request : (q : Request) → (after_request r x q).waiting ≡ r.waiting
    at_request (OfCommand c) = at_made c (make (operations r) r.own c)
    at_request (OfPeer s) = ap (λ (q : Replica). q.waiting) (received_full r s e)

-- what is new is refused
refused_by_tests : (known own full : Bool) (w : Delivered) → known ≡ false → own ≡ false → full ≡ true
    → cond known Known (cond own (NotKept OwnName) (cond full (NotKept HistoryFull) w)) ≡ NotKept HistoryFull
refused_by_tests false false true w a b e = refl
refused_by_tests true own full w a b e = absurd (true≢false a)
refused_by_tests false true full w a b e = absurd (true≢false b)
refused_by_tests false false false w a b e = absurd (true≢false (sym e))

-- the item's operation is applied, or waits, or is refused for the full history
abbrev IsMetFull : Replica → Submitted → Stamped → Type 0
IsMetFull r x s =
    (has_id (operations r) s.id ≡ true) ⊎ (is_waiting r.waiting s.id ≡ true)
    ⊎ (reply_to r x ≡ RefusedAt HistoryFull (length (receive r s).entries))

-- An operation of the world that comes to a full history is applied, or waits, or is refused for that.
pub item_full : (K : List Operation) → IsLegal K → (p : ℕ) (r : Replica) (x : Submitted) (s : Stamped) (F : List Stamped)
    → IsSettled K p r → x.floor ≤ length r.entries → x.request ≡ OfPeer s
    → IsLegalStamped (s ∷ F) → length F < 1048576 → AreWithin (operations_of (s ∷ F)) K
    → is_full r.entries ≡ true
    → IsMetFull r x s
item_full K lk p r x s F h floor is l few w full = at_applied (has_id (operations r) s.id) refl
  where
    alone : alone_fault s ≡ None
    alone = no_fault_alone (operations_of F) s (legal F l.0) (let n = length_operations F in omega (arith, n, few)) l.1

    -- it isn't the replica's own, which would be there
    other : has_id (operations r) s.id ≡ false → (s.id.replica == r.own) ≡ false
    other new = false_from_ne_true (s.id.replica == r.own) (λ t.
        let o : Operation = operation_after (operations_of F) s in
        true≢false (sym (h.world.made o (w o (means_first F s l).among) (eqb-true s.id.replica r.own t ∙ h.world.own)) ∙ new))

    reply : has_id (operations r) s.id ≡ false → is_waiting r.waiting s.id ≡ false
        → reply_to r x ≡ RefusedAt HistoryFull (length (receive r s).entries)
    reply new absent =
        let test : nat_lt (length r.entries) x.floor ≡ false = le-ltb (length r.entries) x.floor floor in
        let answer : answer_to r s ≡ NotKept HistoryFull =
        ap (answer_after r s) alone
        ∙ refused_by_tests (has_id (operations r) s.id || is_waiting r.waiting s.id) (s.id.replica == r.own) (is_full r.entries)
        (room_answer r s)
        (or_from (has_id (operations r) s.id) (is_waiting r.waiting s.id) new absent) (other new) full in
        rw test (ap (reply_requested r) is ∙ ap (reply_delivered (length (receive r s).entries)) answer)

    at_waiting : has_id (operations r) s.id ≡ false → (b : Bool) → is_waiting r.waiting s.id ≡ b
        → IsMetFull r x s
    at_waiting new true e = inr (inl e)
    at_waiting new false e = inr (inr (reply new e))

    at_applied : (b : Bool) → has_id (operations r) s.id ≡ b
        → IsMetFull r x s
    at_applied true e = inl e
    at_applied false e = at_waiting e (is_waiting r.waiting s.id) refl
