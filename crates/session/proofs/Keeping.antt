-- What a session does preserves its invariant.
use Rattle.std.proofs.Common.{◌≡◌, ◌≤◌, ℕ, zero, suc, Bool, true, false, cond, nat_le, List, [], length, Option, Some, None}
use Rattle.std.proofs.Common.{Result}
use Rattle.std.specs.Prelude.{OnErr, OnOk}
use Rattle.std.proofs.Common.{Ok, Err, refl, sym, ap, ◌∙◌, subst, arith, tests}
use Rattle.ids.specs.declared.refusal.Refusal.{Refusal}
use Rattle.ids.specs.declared.refusal.Refusal.TheVariants.{HistoryFull}
use Rattle.semantics.specs.Stamped.{Stamped}
use Rattle.semantics.specs.Operations.{Operation}
use Rattle.semantics.specs.Joining.{check_fault}
use Rattle.semantics.specs.Limits.{most_entries}
use Rattle.semantics.specs.Making.{Command, is_full}
use Rattle.semantics.specs.Entries.{Entry, IsAbove, applied, stamped_entries}
use Rattle.semantics.specs.Replica.{Replica, IsRunning, commit_own, operations}
use Rattle.semantics.specs.Delivery.{Delivered, Kept, Known, NotKept, answer_to, deliver, kept_by}
use Rattle.semantics.specs.Drain.{counted, drain_for, first_ready, at_ready, taken, taken_with, with_peers}
use Rattle.semantics.specs.WorldHistory.{BeginsWith}
use Rattle.semantics.proofs.Beginnings.{above_more, no_shorter}
use Rattle.semantics.proofs.EntryHistories.{length-applied}
use Rattle.semantics.proofs.HandledAnswers.{part, peers_before}
use Rattle.semantics.proofs.ReceivedItems.{above_with_peers, same_entries}
use Rattle.replica.specs.Replicas.{IsMade}
use Rattle.session.specs.Sessions.{IsSession}

-- ---- the limit

has_place : (G : List Entry) → is_full G ≡ false → suc (length G) ≤ most_entries
has_place G e = grind (arith, tests, e)

-- no turn of a drain exceeds it
few_turns : (n : ℕ) (r : Replica) → length r.entries ≤ most_entries → length (drain_for n r).entries ≤ most_entries
few_turns zero r few = few
few_turns (suc n) r few = at_full (λ m k. few_turns n m k) (is_full r.entries) refl
  where
    at_fault : ((m : Replica) → length m.entries ≤ most_entries → length (drain_for n m).entries ≤ most_entries)
        → is_full r.entries ≡ false → (s : Stamped) (f : Option Refusal)
        → length (drain_for n (taken_with r s f)).entries ≤ most_entries
    at_fault rest room s None = rest (taken_with r s None) (has_place r.entries room)
    at_fault rest room s (Some why) = rest (taken_with r s (Some why)) few

    at_first : ((m : Replica) → length m.entries ≤ most_entries → length (drain_for n m).entries ≤ most_entries)
        → is_full r.entries ≡ false → (w : Option Stamped)
        → length (at_ready w r (λ s. drain_for n (taken r s))).entries ≤ most_entries
    at_first rest room None = few
    at_first rest room (Some s) = at_fault rest room s (check_fault r.members (stamped_entries r.entries) s)

    at_full : ((m : Replica) → length m.entries ≤ most_entries → length (drain_for n m).entries ≤ most_entries)
        → (b : Bool) → is_full r.entries ≡ b
        → length (cond b r (at_ready (first_ready (operations r) r.waiting) r (λ s. drain_for n (taken r s)))).entries ≤ most_entries
    at_full rest true e = few
    at_full rest false e = at_first rest e (first_ready (operations r) r.waiting)

-- ---- the replica

-- turns of a drain
pub drained_on : (p n : ℕ) (r q : Replica) → IsRunning r → q ≡ counted (drain_for n r) → IsSession p r → IsSession p q
drained_on p n r q running is h =
    let k = part n r q running is in
    let longer = no_shorter q.entries r.entries (_, k.entries ∙ peers_before k.appended r.entries) in
    record {
      own_number = k.own ∙ h.own_number;
      above = above_more 0 (length r.entries) (length q.entries) q.entries longer
          (subst (IsAbove 0 (length r.entries)) (sym k.entries) (above_with_peers 0 (length r.entries) k.appended r.entries h.above));
      few = subst (λ (t : Replica). length t.entries ≤ most_entries) (sym is) (few_turns n r h.few);
    }

-- a delivery
pub delivered_on : (p : ℕ) (r q : Replica) (s : Stamped) → q ≡ deliver r s → IsSession p r → IsSession p q
delivered_on p r q s is h = subst (IsSession p) (sym is) (by (answer_to r s))
  where
    by : (d : Delivered) → IsSession p (kept_by r s d)
    by Kept = record { own_number = h.own_number; above = h.above; few = h.few }
    by Known = h
    by (NotKept why) = h

-- an own entry
pub written_on : (p : ℕ) (r q : Replica) (c : Command) (s : Stamped) → IsMade r.entries r.own c s
    → q ≡ commit_own r 0 (length r.entries) c s → IsSession p r → IsSession p q
written_on p r q c s made is h =
    let G : List Entry = r.entries in
    subst (IsSession p) (sym is)
    (record {
      own_number = h.own_number;
      above = (λ e. omega arith, above_more 0 (length G) (suc (length G)) G (omega arith) h.above);
      few = has_place G (sym (ap (nat_le most_entries) (length-applied G)) ∙ by (is_full (applied G)) refl _ made.1);
    })
  where
    by : (b : Bool) → is_full (applied r.entries) ≡ b → (x : Result Operation Refusal)
        → cond b (Err HistoryFull) x ≡ Ok made.0 → is_full (applied r.entries) ≡ false
    by true e x is = absurd (let z : ⊥ = cc in z)
    by false e x is = e

-- turns of a drain leave the number
pub own_stays : (n : ℕ) (r q : Replica) → IsRunning r → q ≡ counted (drain_for n r) → q.own ≡ r.own
own_stays n r q running is = (part n r q running is).own

-- ---- the entries

-- turns of a drain append
pub grown_by : (n : ℕ) (r q : Replica) → IsRunning r → q ≡ counted (drain_for n r) → BeginsWith q.entries r.entries
grown_by n r q running is =
    let k = part n r q running is in
    (with_peers k.appended [], k.entries ∙ peers_before k.appended r.entries)

-- a delivery changes none
pub entries_stay : {X Y : Type 0} (result : Result X Y) (r q : Replica) (s : Stamped) → OnOk result (q ≡ deliver r s) → OnErr result (q ≡ r)
    → q.entries ≡ r.entries
entries_stay (Ok x) r q s kept same = ap (λ (p : Replica). p.entries) kept ∙ same_entries r s (answer_to r s)
entries_stay (Err why) r q s kept same = ap (λ (p : Replica). p.entries) same
