-- There is always room for a ready operation.
use Rattle.std.proofs.Common.{◌≡◌, inl, inr, ℕ, zero, suc, ◌≤◌, Bool, true, false, cond, ◌||◌, ◌==◌, nat_lt, List, [], ◌∷◌, Option, Some}
use Rattle.std.proofs.Common.{None, refl, sym, ◌∙◌, true≢false, arith, length}
use Rattle.std.proofs.lemmas.Bool.{ltb-false, eqb-false, or_parts}
use Rattle.semantics.specs.Ids.{is_smaller_id}
use Rattle.semantics.specs.LegalHistory.{has_id, IsAmong}
use Rattle.semantics.specs.Stamped.{Stamped}
use Rattle.ids.specs.declared.refusal.Refusal.{Refusal}
use Rattle.ids.specs.declared.refusal.Refusal.TheVariants.{HistoryFull, InboxFull, OwnName}
use Rattle.semantics.specs.Faults.{is_ready, alone_fault}
use Rattle.semantics.specs.Making.{is_full}
use Rattle.semantics.specs.Entries.{stamped_entries}
use Rattle.semantics.specs.Joining.{check_fault}
use Rattle.semantics.specs.Replica.{Replica, operations, IsRunning}
use Rattle.semantics.specs.Delivery.{Kept, Known, NotKept, is_waiting, put_waiting, kept_unless, room_answer, answer_after, kept_by}
use Rattle.semantics.specs.Delivery.{deliver}
use Rattle.semantics.specs.Drain.{first_ready, taken, at_ready, drain_for, drain, receive}
use Rattle.semantics.proofs.Delivered.{delivered, kept_running}
use Rattle.semantics.proofs.Taken.{taken_running, taken_fewer}
use Rattle.semantics.proofs.Waiting.{ready_first, none_ready, within_put}
use Rattle.semantics.proofs.AloneTests.{stands_alone}

pub shorter_for : (n : ℕ) (r : Replica) → IsRunning r → length (drain_for n r).waiting ≤ length r.waiting
shorter_for zero r h = omega arith
shorter_for (suc n) r h = at_full (λ m k. shorter_for n m k) (is_full r.entries)
  where
    at_first : ((m : Replica) → IsRunning m → length (drain_for n m).waiting ≤ length m.waiting) → (f : Option Stamped)
        → first_ready (operations r) r.waiting ≡ f
        → length (at_ready f r (λ s. drain_for n (taken r s))).waiting ≤ length r.waiting
    at_first rest None e = omega arith
    at_first rest (Some s) e =
        let m = (ready_first (operations r) r.waiting h.rising s e).0 in
        let k = rest (taken r s) (taken_running r s h m) in
        let f = taken_fewer r s h m in
        omega (arith, k, f)

    at_full : ((m : Replica) → IsRunning m → length (drain_for n m).waiting ≤ length m.waiting) → (b : Bool)
        → length (cond b r (at_ready (first_ready (operations r) r.waiting) r (λ s. drain_for n (taken r s)))).waiting ≤ length r.waiting
    at_full rest true = omega arith
    at_full rest false = at_first rest (first_ready (operations r) r.waiting) refl

-- one leaves if one is ready
pub shorter_one : (n : ℕ) (r : Replica) (s : Stamped) → IsRunning r → is_full r.entries ≡ false → IsAmong s r.waiting
    → is_ready (operations r) s ≡ true → suc (length (drain_for (suc n) r).waiting) ≤ length r.waiting
shorter_one n r s h few m ready = at_full (is_full r.entries) few
  where
    at_first : (f : Option Stamped) → first_ready (operations r) r.waiting ≡ f
        → suc (length (at_ready f r (λ t. drain_for n (taken r t))).waiting) ≤ length r.waiting
    at_first None e = absurd (true≢false (sym ready ∙ none_ready (operations r) r.waiting e s m))
    at_first (Some t) e =
        let k = (ready_first (operations r) r.waiting h.rising t e).0 in
        let l = shorter_for n (taken r t) (taken_running r t h k) in
        let f = taken_fewer r t h k in
        omega (arith, l, f)

    at_full : (b : Bool) → b ≡ false
        → suc
        (length (cond b r
        (at_ready (first_ready (operations r) r.waiting) r (λ t. drain_for n (taken r t)))).waiting) ≤ length r.waiting
    at_full true e = absurd (true≢false e)
    at_full false e = at_first (first_ready (operations r) r.waiting) refl

pub in_put_itself : (s : Stamped) (W : List Stamped) → IsAmong s (put_waiting s W)
in_put_itself s [] = inl refl
in_put_itself s (y ∷ W) = at_test (in_put_itself s W) (is_smaller_id s.id y.id)
  where
    at_test : IsAmong s (put_waiting s W) → (b : Bool) → IsAmong s (cond b (s ∷ y ∷ W) (y ∷ put_waiting s W))
    at_test rest true = inl refl
    at_test rest false = inr rest

drain_shorter : (r : Replica) (s : Stamped) → IsRunning r → is_full r.entries ≡ false → IsAmong s r.waiting
    → is_ready (operations r) s ≡ true → suc (length (drain r).waiting) ≤ length r.waiting
drain_shorter r s h few m ready = at_length (length r.waiting) refl
  where
    none_in : (W : List Stamped) → length W ≡ 0 → IsAmong s W → ⊥
    none_in [] e k = k
    none_in (x ∷ W) e k = omega arith

    at_length : (n : ℕ) → length r.waiting ≡ n → suc (length (drain_for n r).waiting) ≤ length r.waiting
    at_length zero e = absurd (none_in r.waiting e m)
    at_length (suc n) e = shorter_one n r s h few m ready

-- at most 4096 wait after a delivery and its drain
pub bounded : (r : Replica) (s : Stamped) → IsRunning r → length r.waiting ≤ 4096 → length (receive r s).waiting ≤ 4096
bounded r s h le = at_alone (alone_fault s) refl
  where
    stays : length (drain r).waiting ≤ 4096
    stays = let k = shorter_for (length r.waiting) r h in omega (arith, k, le)

    run : IsRunning (deliver r s)
    run = delivered r s h

    after_kept : IsRunning (record r { waiting = put_waiting s r.waiting }) → is_full r.entries ≡ false → (b : Bool)
        → is_ready (operations r) s ≡ b
        → length
        (drain (kept_by r s
        (cond b
        (cond (nat_lt 4096 (length r.waiting)) (NotKept InboxFull) (kept_unless (check_fault r.members (stamped_entries r.entries) s)))
        (cond (nat_lt 4095 (length r.waiting)) (NotKept InboxFull) Kept)))).waiting ≤ 4096
    after_kept k few true e = at_many (nat_lt 4096 (length r.waiting)) (check_fault r.members (stamped_entries r.entries) s)
      where
        at_many : (b : Bool) (f : Option Refusal) → length (drain (kept_by r s (cond b (NotKept InboxFull) (kept_unless f)))).waiting ≤ 4096
        at_many true f = stays
        at_many false (Some f) = stays
        at_many false None =
            let q : Replica = record r { waiting = put_waiting s r.waiting } in
            let l = drain_shorter q s k few (in_put_itself s r.waiting) e in
            let m = within_put s r.waiting in
            omega (arith, l, m, le)
    after_kept k few false e = at_many (nat_lt 4095 (length r.waiting)) refl
      where
        at_many : (b : Bool) → nat_lt 4095 (length r.waiting) ≡ b
            → length (drain (kept_by r s (cond b (NotKept InboxFull) Kept))).waiting ≤ 4096
        at_many true t = stays
        at_many false t =
            let q : Replica = record r { waiting = put_waiting s r.waiting } in
            let l = shorter_for (length q.waiting) q k in
            let m = within_put s r.waiting in
            let b : length r.waiting ≤ 4095 = ltb-false 4095 (length r.waiting) t in
            omega (arith, l, m, b)

    at_full : IsRunning (record r { waiting = put_waiting s r.waiting }) → (b : Bool) → is_full r.entries ≡ b
        → length (drain (kept_by r s (cond b (NotKept HistoryFull) (room_answer r s)))).waiting ≤ 4096
    at_full k true e = stays
    at_full k false e = after_kept k e (is_ready (operations r) s) refl

    at_own : ((s.id.replica ≡ r.own → ⊥) → IsRunning (record r { waiting = put_waiting s r.waiting })) → (b : Bool)
        → (s.id.replica == r.own) ≡ b
        → length
        (drain (kept_by r s
        (cond b (NotKept OwnName) (cond (is_full r.entries) (NotKept HistoryFull) (room_answer r s))))).waiting ≤ 4096
    at_own k true e = stays
    at_own k false e = at_full (k (eqb-false s.id.replica r.own e)) (is_full r.entries) refl

    at_known : (b : Bool) → (has_id (operations r) s.id || is_waiting r.waiting s.id) ≡ b
        → ((s.id.replica ≡ r.own → ⊥) → b ≡ false → IsRunning (record r { waiting = put_waiting s r.waiting }))
        → length
        (drain (kept_by r s
        (cond b Known
        (cond (s.id.replica == r.own) (NotKept OwnName)
        (cond (is_full r.entries) (NotKept HistoryFull) (room_answer r s)))))).waiting ≤ 4096
    at_known true e k = stays
    at_known false e k = at_own (λ n. k n refl) (s.id.replica == r.own) refl

    at_alone : (w : Option Refusal) → alone_fault s ≡ w → length (drain (kept_by r s (answer_after r s w))).waiting ≤ 4096
    at_alone (Some f) e = stays
    at_alone None e =
        let known : Bool = has_id (operations r) s.id || is_waiting r.waiting s.id in
        at_known (has_id (operations r) s.id || is_waiting r.waiting s.id) refl (λ n t.
        let parts = or_parts (has_id (operations r) s.id) (is_waiting r.waiting s.id) t in
        kept_running r s h (stands_alone s e) n parts.0 parts.1)
