use Rattle.std.proofs.Common.{◌≡◌, ◌==◌, sym, ap, ◌∙◌}
use Rattle.semantics.specs.Journals.{Commanded, Received, recorded}
use Rattle.std.proofs.lemmas.Bool.{and_parts, eqb-true}
use Rattle.requests.specs.operation.declared.op.Op.{Op}
use Rattle.requests.specs.operation.Ops.{command_of, entry_of, stamped_of}
use Rattle.requests.specs.operation.SameOps.{command_decides, operation_decides}
use Rattle.records.specs.Replays.{record_meant}
use Rattle.records.proofs.replaying.is_recorded.Goals as goal

pub returns-then-eq : goal.returns-then-eq
returns-then-eq c h =
    let k = c.in-Own-Commanded in
    let o : Op = c.deref.result.now in
    let parts = and_parts (o.id.counter == k.id.counter) (o.id.replica == k.id.replica) (sym c.eq.ensures ∙ c.if-eq.true) in
    let counter : o.id.counter ≡ k.id.counter = eqb-true o.id.counter k.id.counter parts.0 in
    let replica : o.id.replica ≡ k.id.replica = eqb-true o.id.replica k.id.replica parts.1 in
    let id : k.op.id ≡ k.id =
    ap (λ (p : Op). p.id) (sym c.deref.ensures) ∙ (λ i. record { counter = counter i; replica = replica i }) in
    let same = (command_decides (command_of k.command) (command_of k.other)).0 (sym c.is_same_command.ensures ∙ h) in
    ap (λ e. recorded (entry_of e)) k.is-0
    ∙ (λ i. Commanded (id i) (same i))
    ∙ sym (ap record_meant k.is-1)

pub returns-in-Peer-Received : goal.returns-in-Peer-Received
returns-in-Peer-Received c h =
    let k = c.in-Peer-Received in
    let same = (operation_decides (stamped_of k.op) (stamped_of k.other)).0 (sym c.is_same_op.ensures ∙ h) in
    ap (λ e. recorded (entry_of e)) k.is-0 ∙ ap Received same ∙ sym (ap record_meant k.is-1)
