-- What a replica holds after a delivery.
use Rattle.std.proofs.Common.{◌≡◌, ◌≢◌, ◌⊎◌, inl, inr, ℕ, false, cond, ◌||◌, List, Result, Ok, Err, None, refl, sym, ap, ◌∙◌, subst}
use Rattle.ids.specs.declared.refusal.Refusal.{Refusal}
use Rattle.semantics.specs.LegalHistory.{has_id, IsAmong}
use Rattle.semantics.specs.Stamped.{Stamped}
use Rattle.semantics.specs.Faults.{alone_fault}
use Rattle.semantics.specs.Replica.{Replica, IsRunning, operations}
use Rattle.semantics.specs.Delivery.{Kept as IsKept, Known, answer_after, answer_to_new, deliver, is_waiting, kept_by, put_waiting}
use Rattle.semantics.proofs.Delivered.{delivered}
use Rattle.inbox.specs.operation.declared.op.Op.{Op}
use Rattle.inbox.specs.operation.declared.command.Delivered.{Delivered}
use Rattle.inbox.specs.operation.declared.command.Delivered.TheVariants as answer
use Rattle.inbox.specs.operation.Alone.{alone_fault_of_op}
use Rattle.inbox.specs.operation.Ops.{stamped_of}
use Rattle.inbox.specs.Inboxes.{waiting_in}
use Rattle.replica.specs.Replicas.{Running, IsReplica, replica_of}

-- an operation that passed all tests is kept
passed : (r : Replica) (s : Stamped) → alone_fault s ≡ None → has_id (operations r) s.id ≡ false
    → is_waiting r.waiting s.id ≡ false → answer_to_new r s ≡ IsKept → deliver r s ≡ record r { waiting = put_waiting s r.waiting }
passed r s none unapplied unknown new =
    ap (kept_by r s)
    (ap (answer_after r s) none
    ∙ ap (λ b. cond (b || is_waiting r.waiting s.id) Known (answer_to_new r s)) unapplied
    ∙ ap (λ b. cond b Known (answer_to_new r s)) unknown
    ∙ new)

-- a replica after an operation that passed all tests was put, or not
pub after_put : (r : Running) (o : Op) (next : List Op) (result : Result Delivered Refusal) → IsReplica r
    → alone_fault_of_op o ≡ None → has_id (operations (replica_of r)) o.id ≡ false
    → is_waiting (waiting_in r.waiting) o.id ≡ false
    → answer_to_new (replica_of r) (stamped_of o) ≡ IsKept
    → (result ≡ Ok answer.Kept
    → waiting_in next ≡ put_waiting (stamped_of o) (waiting_in r.waiting))
    → ((p : Op) → IsAmong p next → (p ≡ o) ⊎ IsAmong p r.waiting)
    → (result ≢ Ok answer.Kept → next ≡ r.waiting)
    → IsReplica (record r { waiting = next })
after_put r o next result h none unapplied unknown new put among same = by result refl
  where
    table : List ℕ
    table = r.document.members

    unchanged : next ≡ r.waiting → IsReplica (record r { waiting = next })
    unchanged e = subst (λ ws. IsReplica (record r { waiting = ws })) (sym e) h

    by : (k : Result Delivered Refusal) → result ≡ k → IsReplica (record r { waiting = next })
    by (Ok answer.Kept) e =
        let s : Stamped = stamped_of o in
        let is : replica_of (record r { waiting = next }) ≡ deliver (replica_of r) s =
        (λ i. record { own = r.own; members = table; entries = r.document.entries; waiting = put e i; dropped = r.dropped })
        ∙ sym (passed (replica_of r) s none unapplied unknown new) in
        record {
          running = subst IsRunning (sym is) (delivered (replica_of r) s h.running);
          member = h.member;
          alone = λ p m. elim (among p m) [ inl e ↦ ap alone_fault_of_op e ∙ none | inr k ↦ h.alone p k ];
          count = h.count;
        }
    by (Ok answer.Known) e = unchanged (same (λ f. absurd (let g = sym e ∙ f in cc)))
    by (Err why) e = unchanged (same (λ f. absurd (let g = sym e ∙ f in cc)))
