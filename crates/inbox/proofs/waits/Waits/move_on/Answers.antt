use Rattle.std.proofs.Common.{◌≡◌, Some, refl, sym, subst}
use Rattle.slab.specs.Slab.{get}
use Rattle.inbox.specs.Awaiting.{IsEntered}
use Rattle.inbox.proofs.KeptAwaits.{no_change, same_awaiting}
use Rattle.inbox.proofs.MovedAwaits.{moved_awaiting}
use Rattle.inbox.proofs.waits.Waits.move_on.Goals as goal

pub returns-in_err-position-clause-kept : goal.returns-in_err-position-clause-kept
returns-in_err-position-clause-kept c es h =
    same_awaiting c.args.ops.now c.args.ops.now es es c.args.self.now c.enter.new.self refl (λ k. refl) c.in_err-position.ensures.refused h

pub returns-clause-kept : goal.returns-clause-kept
returns-clause-kept c es h =
    let here : get c.args.ops.now c.args.awaited.now.key ≡ Some c.in-Some.op.now = sym c.in-Some.ensures in
    let entered : IsEntered c.args.applied.now c.args.self.now c.enter.new.self c.args.awaited.now.key c.in-Some.op.now
    = subst (IsEntered c.args.applied.now c.args.self.now c.enter.new.self c.args.awaited.now.key) c.deref.ensures
    c.in_ok-position.ensures.entered in
    let moved = moved_awaiting c.args.applied.now c.args.ops.now es c.args.self.now c.enter.new.self _ c.args.awaited.now c.in-Some.op.now
    here c.requires.held c.requires.met c.remove.ensures.updates refl refl h entered in
    same_awaiting c.args.ops.now c.set_position.new.ops es es _ _ refl c.set_position.ensures (no_change _) moved
