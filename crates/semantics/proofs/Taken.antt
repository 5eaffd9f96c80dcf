-- An operation that leaves the inbox preserves the invariant of a replica.
use Rattle.std.proofs.Common.{◌≡◌, inl, inr, suc, false, [], ◌∷◌, Option, Some, None, refl, sym, ◌∙◌, subst, true≢false, arith, length}
use Rattle.std.proofs.lemmas.Bool.{or_from, false_from_ne_true}
use Rattle.semantics.specs.Ids.{OpId, is_same_id}
use Rattle.semantics.specs.LegalHistory.{has_id, IsAmong}
use Rattle.semantics.specs.Stamped.{Stamped}
use Rattle.ids.specs.declared.refusal.Refusal.{Refusal}
use Rattle.semantics.specs.Entries.{stamped_entries}
use Rattle.semantics.specs.Joining.{check_fault}
use Rattle.semantics.specs.Replica.{Replica, operations, IsRunning}
use Rattle.semantics.specs.Drain.{without_waiting, taken_with, taken, Drains}
use Rattle.semantics.proofs.Orders.{ids_from_test, id_tested}
use Rattle.semantics.proofs.CheckedFaults.{faultless_parts}
use Rattle.semantics.proofs.EntryHistories.{entries_legal}
use Rattle.semantics.proofs.FaultlessFollows.{follows_without_fault}
use Rattle.semantics.proofs.Waiting.{in_without, rising_without, without_one}

-- a differs from b, and so b from a
pub turned_ids : (a b : OpId) → is_same_id a b ≡ false → is_same_id b a ≡ false
turned_ids a b h = false_from_ne_true (is_same_id b a) (λ e. true≢false (sym (id_tested a b (sym (ids_from_test b a e))) ∙ h))

pub taken_running : (r : Replica) (s : Stamped) → IsRunning r → IsAmong s r.waiting → IsRunning (taken r s)
taken_running r s h m = at_fault (check_fault r.members (stamped_entries r.entries) s) refl
  where
    at_fault : (w : Option Refusal) → check_fault r.members (stamped_entries r.entries) s ≡ w → IsRunning (taken_with r s w)
    at_fault None e = record {
      history = (
        h.history,
        follows_without_fault (stamped_entries r.entries) s (entries_legal r.own r.entries h.history)
            (h.alone s m) (faultless_parts r.members (stamped_entries r.entries) s e).1,
        h.foreign s m,
      );
      alone = λ x n. h.alone x (in_without s.id r.waiting x n).0;
      foreign = λ x n. h.foreign x (in_without s.id r.waiting x n).0;
      unapplied = λ x n. or_from (is_same_id s.id x.id) (has_id (operations r) x.id)
          (turned_ids x.id s.id (in_without s.id r.waiting x n).1) (h.unapplied x (in_without s.id r.waiting x n).0);
      rising = rising_without s.id r.waiting h.rising;
    }
    at_fault (Some f) e = record {
      history = h.history;
      alone = λ x n. h.alone x (in_without s.id r.waiting x n).0;
      foreign = λ x n. h.foreign x (in_without s.id r.waiting x n).0;
      unapplied = λ x n. h.unapplied x (in_without s.id r.waiting x n).0;
      rising = rising_without s.id r.waiting h.rising;
    }

pub taken_drains : (r : Replica) (s : Stamped) → IsRunning r → IsAmong s r.waiting → Drains r (taken r s)
taken_drains r s h m = at_fault (check_fault r.members (stamped_entries r.entries) s)
  where
    one : suc (length (without_waiting s.id r.waiting)) ≡ length r.waiting
    one = without_one s r.waiting h.rising m

    at_fault : (w : Option Refusal) → Drains r (taken_with r s w)
    at_fault None = record {
      own = refl;
      members = refl;
      appended = s ∷ [];
      entries = refl;
      waited = λ x n. elim n [ inl e ↦ subst (λ (z : Stamped). IsAmong z r.waiting) (sym e) m | inr k ↦ absurd k ];
      waits = λ x n. (in_without s.id r.waiting x n).0;
      balance = (let e : suc (length (without_waiting s.id r.waiting)) ≡ length r.waiting = one in omega arith);
    }
    at_fault (Some f) = record {
      own = refl;
      members = refl;
      appended = [];
      entries = refl;
      waited = λ x n. absurd n;
      waits = λ x n. (in_without s.id r.waiting x n).0;
      balance = (let e : suc (length (without_waiting s.id r.waiting)) ≡ length r.waiting = one in omega arith);
    }

pub taken_fewer : (r : Replica) (s : Stamped) → IsRunning r → IsAmong s r.waiting → suc (length (taken r s).waiting) ≡ length r.waiting
taken_fewer r s h m = at_fault (check_fault r.members (stamped_entries r.entries) s)
  where
    at_fault : (w : Option Refusal) → suc (length (taken_with r s w).waiting) ≡ length r.waiting
    at_fault None = without_one s r.waiting h.rising m
    at_fault (Some f) = without_one s r.waiting h.rising m
