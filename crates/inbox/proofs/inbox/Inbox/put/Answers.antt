use Rattle.std.proofs.Common.{◌≡◌, ℕ, Some, inr, refl, ap, sym, subst, ◌∙◌}
use Rattle.std.specs.FinMap.{put}
use Rattle.semantics.specs.Ids.{id_cmp}
use Rattle.semantics.specs.Vectors.{IsCanonical}
use Rattle.semantics.specs.LegalHistory.{IsAmong}
use Rattle.semantics.specs.Delivery.{is_waiting}
use Rattle.document.specs.operation.declared.op.Op.{Op}
use Rattle.slab.specs.Slab.{Updates}
use Rattle.inbox.specs.Awaiting.{IsEntered}
use Rattle.inbox.specs.Inboxes.{waiting_in}
use Rattle.inbox.proofs.KeptOps.{IsWith, kept_same, put_in, reserved}
use Rattle.inbox.proofs.inbox.Inbox.put.Goals as goal

-- ---- memory was reserved, or not

pub invariant_of-self-in_err-reserve : goal.invariant_of-self-in_err-reserve
invariant_of-self-in_err-reserve c =
    let d = c.self.inside in
    let room = reserved d.ops c.reserve.new.self c.reserve.new.self.capacity d.keys.entries c.reserve_one.new.self.entries
    c.args.self.now d.waits c.reserve.ensures.rest_kept c.reserve_one.ensures.same c.self.view_is c.self.invariant in
    room.0

pub returns-in_err-reserve-clause-among : goal.returns-in_err-reserve-clause-among
returns-in_err-reserve-clause-among c o m =
    let d = c.self.inside in
    let room = reserved d.ops c.reserve.new.self c.reserve.new.self.capacity d.keys.entries c.reserve_one.new.self.entries
    c.args.self.now d.waits c.reserve.ensures.rest_kept c.reserve_one.ensures.same c.self.view_is c.self.invariant in
    inr (subst (IsAmong o) room.1 m)

pub invariant_of-self-in_err-position : goal.invariant_of-self-in_err-position
invariant_of-self-in_err-position c =
    let d = c.self.inside in
    let room = reserved d.ops c.reserve.new.self c.reserve.new.self.capacity d.keys.entries c.reserve_one.new.self.entries
    c.args.self.now d.waits c.reserve.ensures.rest_kept c.reserve_one.ensures.same c.self.view_is c.self.invariant in
    kept_same c.reserve.new.self c.reserve.new.self c.reserve_one.new.self.entries c.reserve_one.new.self.entries d.waits _ refl
    (λ k. refl) c.in_err-position.ensures.refused room.0

pub returns-in_err-position-clause-among : goal.returns-in_err-position-clause-among
returns-in_err-position-clause-among c o m =
    let d = c.self.inside in
    let room = reserved d.ops c.reserve.new.self c.reserve.new.self.capacity d.keys.entries c.reserve_one.new.self.entries
    c.args.self.now d.waits c.reserve.ensures.rest_kept c.reserve_one.ensures.same c.self.view_is c.self.invariant in
    inr (subst (IsAmong o) room.1 m)

-- ---- the operation is kept

pub enter-requires : goal.enter-requires
enter-requires c = subst IsCanonical (sym c.ids.ensures.ids) c.ids.ensures.canonical

kept : (c : goal.After-put)
    → IsWith c.args.op c.args.self.now c.insert_reserved-key.new.self c.put.new.self.entries c.enter.new.self
kept c =
    let d = c.self.inside in
    let room = reserved d.ops c.reserve.new.self c.reserve.new.self.capacity d.keys.entries c.reserve_one.new.self.entries
    c.args.self.now d.waits c.reserve.ensures.rest_kept c.reserve_one.ensures.same c.self.view_is c.self.invariant in
    let key = c.insert_reserved-key.result in
    let one : c.vacant_key-key.result ≡ key = c.vacant_key-key.ensures.value ∙ sym c.insert_reserved-key.ensures.key in
    let entered : IsEntered c.ids.result.now d.waits c.enter.new.self key c.args.op
    = subst (λ (x : ℕ × Op). IsEntered c.ids.result.now d.waits c.enter.new.self x.0 x.1) (λ i. (one i, c.deref-3.ensures i))
    c.in_ok-position.ensures.entered in
    put_in c.reserve.new.self c.insert_reserved-key.new.self c.reserve_one.new.self.entries _ _ key c.args.op d.waits c.enter.new.self
    c.ids.result.now room.1
    (c.put.ensures.entries ∙ ap (λ (o : Op). put id_cmp o.id key c.reserve_one.new.self.entries) c.deref-4.ensures)
    c.insert_reserved-key.ensures.was_vacant
    (subst (λ (o : Op). Updates c.reserve.new.self c.insert_reserved-key.new.self key (Some o)) c.new.ensures
    c.insert_reserved-key.ensures.updates)
    (ap (λ (o : Op). is_waiting (waiting_in c.args.self.now) o.id) (sym c.deref.ensures)
    ∙ sym c.contains.ensures ∙ c.if-contains.false)
    entered room.0

pub invariant_of-self-2 : goal.invariant_of-self-2
invariant_of-self-2 c = (kept c).stored

pub returns-clause-kept : goal.returns-clause-kept
returns-clause-kept c done = (kept c).put

pub returns-clause-among : goal.returns-clause-among
returns-clause-among c = (kept c).among
