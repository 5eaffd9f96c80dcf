-- Deliveries and own operations preserve the invariant of a replica.
use Rattle.std.proofs.Common.{◌≡◌, ◌≢◌, inl, inr, ℕ, Bool, true, false, cond, ◌||◌, ◌==◌, Option, Some, None, Ok, refl, sym, ap, ◌∙◌, subst}
use Rattle.std.proofs.lemmas.Bool.{or_parts, or_from, false_from_ne_true, eqb-false}
use Rattle.semantics.specs.Ids.{OpId, is_same_id}
use Rattle.semantics.specs.LegalHistory.{Follows, has_id}
use Rattle.semantics.specs.NamedIds.{NamesAll}
use Rattle.semantics.specs.Stamped.{Stamped, operation_after}
use Rattle.ids.specs.declared.refusal.Refusal.{Refusal}
use Rattle.ids.specs.declared.refusal.Refusal.TheVariants.{HistoryFull, OwnName}
use Rattle.semantics.specs.Faults.{StandsAlone, alone_fault}
use Rattle.semantics.specs.Making.{Command, make, is_full}
use Rattle.semantics.specs.Entries.{IsAbove, stamped_entries}
use Rattle.semantics.specs.Replica.{Replica, operations, commit_own, IsRunning}
use Rattle.semantics.specs.Delivery.{Delivered, Kept, Known, NotKept, is_waiting, put_waiting, answer_after, room_answer, kept_by, deliver}
use Rattle.semantics.proofs.Orders.{ids_from_test}
use Rattle.semantics.proofs.NamedOperations.{legal}
use Rattle.semantics.proofs.MadeLawful.{made_lawful}
use Rattle.semantics.proofs.EntryHistories.{entries_legal}
use Rattle.semantics.proofs.AloneTests.{stands_alone}
use Rattle.semantics.proofs.Waiting.{in_put, rising_put}

pub kept_running : (r : Replica) (s : Stamped) → IsRunning r → StandsAlone s → s.id.replica ≢ r.own → has_id (operations r) s.id ≡ false
    → is_waiting r.waiting s.id ≡ false → IsRunning (record r { waiting = put_waiting s r.waiting })
kept_running r s h alone other new lone = record {
  history = h.history;
  alone = λ x m. elim (in_put s r.waiting x m) [ inl e ↦ subst StandsAlone (sym e) alone | inr n ↦ h.alone x n ];
  foreign = λ x m. elim
      (in_put s r.waiting x m) [ inl e ↦ subst (λ (z : Stamped). z.id.replica ≢ r.own) (sym e) other | inr n ↦ h.foreign x n ];
  unapplied = λ x m. elim
      (in_put s r.waiting x m) [ inl e ↦ ap (λ (z : Stamped). has_id (operations r) z.id) e ∙ new | inr n ↦ h.unapplied x n ];
  rising = rising_put s r.waiting lone h.rising;
}

-- What a peer delivers leaves a replica that runs. Nothing changes unless it is kept; and what is kept passed each test of the delivery, in
-- their order, which is what `kept_running` asks of it.
pub delivered : (r : Replica) (s : Stamped) → IsRunning r → IsRunning (deliver r s)
delivered r s h = at_alone (alone_fault s) refl
  where
    at_answer : StandsAlone s → s.id.replica ≢ r.own → has_id (operations r) s.id ≡ false → is_waiting r.waiting s.id ≡ false
        → (a : Delivered) → IsRunning (kept_by r s a)
    at_answer alone other new lone Kept = kept_running r s h alone other new lone
    at_answer alone other new lone Known = h
    at_answer alone other new lone (NotKept f) = h

    at_full : StandsAlone s → s.id.replica ≢ r.own → has_id (operations r) s.id ≡ false → is_waiting r.waiting s.id ≡ false → (b : Bool)
        → IsRunning (kept_by r s (cond b (NotKept HistoryFull) (room_answer r s)))
    at_full alone other new lone true = h
    at_full alone other new lone false = at_answer alone other new lone (room_answer r s)

    at_own : StandsAlone s → has_id (operations r) s.id ≡ false → is_waiting r.waiting s.id ≡ false → (b : Bool)
        → (s.id.replica == r.own) ≡ b
        → IsRunning (kept_by r s (cond b (NotKept OwnName) (cond (is_full r.entries) (NotKept HistoryFull) (room_answer r s))))
    at_own alone new lone true e = h
    at_own alone new lone false e = at_full alone (eqb-false s.id.replica r.own e) new lone (is_full r.entries)

    at_known : StandsAlone s → (b : Bool) → (has_id (operations r) s.id || is_waiting r.waiting s.id) ≡ b
        → IsRunning
        (kept_by r s
        (cond b Known
        (cond (s.id.replica == r.own) (NotKept OwnName) (cond (is_full r.entries) (NotKept HistoryFull) (room_answer r s)))))
    at_known alone true e = h
    at_known alone false e =
        let parts = or_parts (has_id (operations r) s.id) (is_waiting r.waiting s.id) e in
        at_own alone parts.0 parts.1 (s.id.replica == r.own) refl

    at_alone : (w : Option Refusal) → alone_fault s ≡ w → IsRunning (kept_by r s (answer_after r s w))
    at_alone (Some f) e = h
    at_alone None e = at_known (stands_alone s e) (has_id (operations r) s.id || is_waiting r.waiting s.id) refl

-- ---- an own operation

pub own_committed : (r : Replica) (client serial : ℕ) (c : Command) (s : Stamped) → IsRunning r → NamesAll (operations r) s.vector
    → make (operations r) r.own c ≡ Ok (operation_after (operations r) s) → IsAbove client serial r.entries
    → IsRunning (commit_own r client serial c s)
own_committed r client serial c s h n e above = record {
  history = (h.history, n, e, above);
  alone = h.alone;
  foreign = h.foreign;
  unapplied = λ x m. or_from (is_same_id s.id x.id) (has_id (operations r) x.id)
      (false_from_ne_true (is_same_id s.id x.id)
      (λ t. h.foreign x m (ap (λ (a : OpId). a.replica) (sym (ids_from_test s.id x.id t)) ∙ made.1)))
      (h.unapplied x m);
  rising = h.rising;
}
  where
    made : Follows (operations r) (operation_after (operations r) s) × (s.id.replica ≡ r.own)
    made =
        let f = made_lawful (operations r) (legal (stamped_entries r.entries) (entries_legal r.own r.entries h.history)) r.own c
        (operation_after (operations r) s) e in
        (f.0, f.1)
