use Rattle.std.proofs.Common.{Err, sym, ap, ◌∙◌, true≢false}
use Rattle.ids.specs.Tables.{lacks_room}
use Rattle.ids.specs.declared.refusal.Refusal.TheVariants.{UnknownReplica}
use Rattle.oplog.specs.operation.Ops.{stamped_of}
use Rattle.oplog.proofs.operation.StandingAlone.{passed_alone}
use Rattle.document.proofs.CheckedOperations.{fault_lacking, fault_fitting, lawful_lacking, lawful_fitting}
use Rattle.document.proofs.document.Document.check.Goals as goal

pub returns-then-lacks_room_for-clause-fault : goal.returns-then-lacks_room_for-clause-fault
returns-then-lacks_room_for-clause-fault c =
    let d = c.self.inside in
    rw (← c.self.view_is)
    (fault_lacking d.members.numbers d.log.table d.log.entries (stamped_of c.args.op.now) c.self.invariant.grown
    (ap (λ t. lacks_room t c.args.op.now.id.replica) (sym c.table.ensures) ∙ sym c.lacks_room_for.ensures ∙ c.if-lacks_room_for.true))

pub returns-then-lacks_room_for-clause-lawful : goal.returns-then-lacks_room_for-clause-lawful
returns-then-lacks_room_for-clause-lawful c =
    let d = c.self.inside in
    rw (← c.self.view_is)
    (λ passed. lawful_lacking d.members.numbers d.log.table d.log.entries (stamped_of c.args.op.now) c.self.invariant.grown
    (ap (λ t. lacks_room t c.args.op.now.id.replica) (sym c.table.ensures) ∙ sym c.lacks_room_for.ensures ∙ c.if-lacks_room_for.true)
    (Err UnknownReplica)
    (λ ok. true≢false (sym ok)))

pub returns-clause-fault : goal.returns-clause-fault
returns-clause-fault c =
    let d = c.self.inside in
    rw (← c.self.view_is)
    (fault_fitting d.members.numbers d.log.table d.log.entries (stamped_of c.args.op.now) c.self.invariant.grown
    (ap (λ t. lacks_room t c.args.op.now.id.replica) (sym c.table.ensures) ∙ sym c.lacks_room_for.ensures
    ∙ c.if-lacks_room_for.false) c.check.result c.check.ensures)

pub returns-clause-lawful : goal.returns-clause-lawful
returns-clause-lawful c =
    let d = c.self.inside in
    rw (← c.self.view_is)
    (λ passed. lawful_fitting d.members.numbers d.log.table d.log.entries (stamped_of c.args.op.now) c.self.invariant.grown
    (ap (λ t. lacks_room t c.args.op.now.id.replica) (sym c.table.ensures) ∙ sym c.lacks_room_for.ensures
    ∙ c.if-lacks_room_for.false) c.self.invariant.consistent.legal c.check.result c.check.ensures
    (passed_alone c.args.op.now passed))
