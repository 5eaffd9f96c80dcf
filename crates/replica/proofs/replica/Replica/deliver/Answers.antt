use Rattle.std.proofs.Common.{◌≡◌, None, false, sym, ◌∙◌, subst}
use Rattle.semantics.specs.Entries.{applied}
use Rattle.semantics.specs.LegalHistory.{has_id}
use Rattle.semantics.specs.Delivery.{Kept as IsKept, answer_to_new, is_waiting}
use Rattle.inbox.specs.operation.declared.op.Op.{Op}
use Rattle.inbox.specs.operation.Alone.{alone_fault_of_op}
use Rattle.inbox.specs.operation.Ops.{stamped_of}
use Rattle.inbox.specs.Inboxes.{waiting_in}
use Rattle.replica.specs.Replicas.{replica_with}
use Rattle.replica.proofs.KeptOperations.{after_put}
use Rattle.replica.proofs.replica.Replica.deliver.Goals as goal

pub invariant_of-self : goal.invariant_of-self
invariant_of-self c =
    let d = c.self.inside.document in
    after_put _ c.args.op c.put.new.self c.put.result c.self.invariant
    (subst (λ (o : Op). alone_fault_of_op o ≡ None) c.deref.ensures c.in_ok-check_alone.ensures)
    (subst (λ (o : Op). has_id (applied d.entries) o.id ≡ false) c.deref-2.ensures (sym c.contains.ensures ∙ c.if-contains.false))
    (subst (λ (o : Op). is_waiting (waiting_in c.self.inside.inbox) o.id ≡ false) c.deref-else-contains.ensures
    (sym c.contains-else-contains.ensures ∙ c.if-contains-2.false))
    (subst (λ (o : Op). answer_to_new (replica_with c.self.inside.own d c.self.inside.inbox) (stamped_of o)
    ≡ IsKept) c.deref-3.ensures
    c.in_ok-check_wanted.ensures)
    c.put.ensures.kept
    c.put.ensures.among
    c.put.ensures.same
