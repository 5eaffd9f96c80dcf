-- One delivery to a replica in which nothing waits.
use Rattle.std.proofs.Common.{◌≡◌, zero, Bool, true, false, not, cond, ◌||◌, ◌==◌, [], ◌∷◌, Option, Some, None, refl, sym, ap, ◌∙◌}
use Rattle.std.proofs.Common.{true≢false, length}
use Rattle.std.proofs.lemmas.Bool.{or_from, or_left}
use Rattle.semantics.specs.LegalHistory.{has_id}
use Rattle.semantics.specs.Stamped.{Stamped}
use Rattle.ids.specs.declared.refusal.Refusal.{Refusal}
use Rattle.ids.specs.declared.refusal.Refusal.TheVariants.{HistoryFull, InboxFull, OwnName}
use Rattle.semantics.specs.Faults.{is_ready, alone_fault}
use Rattle.semantics.specs.Making.{is_full}
use Rattle.semantics.specs.Entries.{Peer, stamped_entries}
use Rattle.semantics.specs.Joining.{check_fault}
use Rattle.semantics.specs.Replica.{Replica, operations}
use Rattle.semantics.specs.Delivery.{Delivered, Kept, Known, NotKept, is_waiting, answer_after, answer_to, kept_unless, kept_by}
use Rattle.semantics.specs.Drain.{taken_with, taken, at_ready, drain_for, drain, receive}
use Rattle.semantics.proofs.Orders.{id_itself}

pub kept_by_tests : (known own full ready many : Bool) (f : Option Refusal) (w : Delivered) → known ≡ false → own ≡ false → full ≡ false
    → ready ≡ true → many ≡ false → f ≡ None
    → cond known Known
    (cond own (NotKept OwnName) (cond full (NotKept HistoryFull) (cond ready (cond many (NotKept InboxFull) (kept_unless f)) w)))
    ≡ Kept
kept_by_tests false false false true false f w a b c d e g = ap kept_unless g
kept_by_tests true own full ready many f w a b c d e g = absurd (true≢false a)
kept_by_tests false true full ready many f w a b c d e g = absurd (true≢false b)
kept_by_tests false false true ready many f w a b c d e g = absurd (true≢false c)
kept_by_tests false false false false many f w a b c d e g = absurd (true≢false (sym d))
kept_by_tests false false false true true f w a b c d e g = absurd (true≢false e)

drained_by_tests : (q : Replica) (s : Stamped) (full ready : Bool) → full ≡ false → ready ≡ true
    → cond full q (at_ready (cond ready (Some s) None) q (λ t. drain_for zero (taken q t))) ≡ taken q s
drained_by_tests q s false true a b = refl
drained_by_tests q s true ready a b = absurd (true≢false a)
drained_by_tests q s false false a b = absurd (true≢false (sym b))

abbrev emptied : Replica → Replica
emptied r = record r { waiting = [] }

abbrev pub appended : Replica → Stamped → Replica
appended r s = record r { entries = Peer s ∷ r.entries; waiting = [] }

received_empty : (r : Replica) (s : Stamped) → alone_fault s ≡ None → has_id (operations r) s.id ≡ false
    → (s.id.replica == r.own) ≡ false → is_full r.entries ≡ false
    → is_ready (operations r) s ≡ true → check_fault r.members (stamped_entries r.entries) s ≡ None → receive (emptied r) s ≡ appended r s
received_empty r s alone new other few ready none =
    let kept : answer_to (emptied r) s ≡ Kept =
    ap (answer_after (emptied r) s) alone
    ∙ kept_by_tests (has_id (operations r) s.id || false) (s.id.replica == r.own) (is_full r.entries) (is_ready (operations r) s) false
    (check_fault r.members (stamped_entries r.entries) s) _
    (or_from (has_id (operations r) s.id) false new refl) other few ready refl none in
    let q : Replica = record r { waiting = s ∷ [] } in
    ap (λ a. drain (kept_by (emptied r) s a)) kept
    ∙ drained_by_tests q s (is_full r.entries) (is_ready (operations r) s) few ready
    ∙ ap (taken_with q s) none
    ∙ ap (λ b. record r { entries = Peer s ∷ r.entries; waiting = cond (not b) (s ∷ []) [] }) (id_itself s.id)

pub received_new : (r : Replica) (s : Stamped) → r.waiting ≡ [] → alone_fault s ≡ None → has_id (operations r) s.id ≡ false
    → (s.id.replica == r.own) ≡ false → is_full r.entries ≡ false
    → is_ready (operations r) s ≡ true → check_fault r.members (stamped_entries r.entries) s ≡ None → receive r s ≡ appended r s
received_new r s e alone new other few ready none =
    let here : r ≡ emptied r = λ i. record { own = r.own; members = r.members; entries = r.entries; waiting = e i; dropped = r.dropped } in
    ap (λ (q : Replica). receive q s) here ∙ received_empty r s alone new other few ready none

known_by_test : (r : Replica) (s : Stamped) (b : Bool) (d : Delivered) → b ≡ true → kept_by r s (cond b Known d) ≡ r
known_by_test r s true d e = refl
known_by_test r s false d e = absurd (true≢false (sym e))

pub received_known : (r : Replica) (s : Stamped) → r.waiting ≡ [] → has_id (operations r) s.id ≡ true → receive r s ≡ r
received_known r s e known = ap drain (same (alone_fault s)) ∙ ap (λ W. drain_for (length W) r) e
  where
    same : (w : Option Refusal) → kept_by r s (answer_after r s w) ≡ r
    same (Some f) = refl
    same None = known_by_test r s (has_id (operations r) s.id || is_waiting r.waiting s.id) _ (or_left (has_id (operations r) s.id) _ known)
