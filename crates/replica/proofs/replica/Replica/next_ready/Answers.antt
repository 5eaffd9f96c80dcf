use Rattle.std.proofs.Common.{◌≡◌, Ok, Some, sym, ap, ◌∙◌, subst, true≢false}
use Rattle.inbox.specs.operation.Ops.{stamped_of}
use Rattle.replica.specs.Replicas.{IsNextReady}
use Rattle.replica.proofs.Leaving.{has_its_id, next_waits}
use Rattle.replica.proofs.replica.Replica.next_ready.Goals as goal

pub unreachable-requires : goal.unreachable-requires
unreachable-requires c =
    let n = c.prepare.ensures.next c.in-Some.id (c.in_ok-id.was ∙ ap Ok c.in-Some.is) in
    true≢false (sym (next_waits _ _ c.self.invariant c.self.view_is c.in-Some.id n)
    ∙ c.in_default-get.ensures.none)

-- the copy is of the next one
copied : (c : goal.In_ok-clone)
    → stamped_of c.in_ok-clone.field-0
    ≡ (c.prepare.ensures.next c.in-Some.id (c.in_ok-id.was ∙ ap Ok c.in-Some.is)).0
copied c =
    let n = c.prepare.ensures.next c.in-Some.id (c.in_ok-id.was ∙ ap Ok c.in-Some.is) in
    (λ i. stamped_of (c.in_ok-clone.ensures.cases i))
    ∙ has_its_id _ _ c.self.invariant c.self.view_is c.in-Some.id n c.in-Some-get.op.now c.in-Some-get.ensures.some

pub returns-clause-next : goal.returns-clause-next
returns-clause-next c =
    let n = c.prepare.ensures.next c.in-Some.id (c.in_ok-id.was ∙ ap Ok c.in-Some.is) in
    ap Some (copied c) ∙ sym n.2.next

pub returns-clause-ready : goal.returns-clause-ready
returns-clause-ready c =
    let n = c.prepare.ensures.next c.in-Some.id (c.in_ok-id.was ∙ ap Ok c.in-Some.is) in
    subst (IsNextReady c.prepare.new.self) (sym (copied c)) n.2
