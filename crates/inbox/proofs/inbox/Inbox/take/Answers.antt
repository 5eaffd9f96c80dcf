use Rattle.std.proofs.Common.{◌≡◌, ◌∙◌, ap, sym, subst}
use Rattle.semantics.specs.LegalHistory.{IsAmong}
use Rattle.document.specs.operation.declared.op.Op.{Op}
use Rattle.inbox.specs.Awaiting.{IsForgotten}
use Rattle.inbox.proofs.KeptOps.{IsWithout, none_out, taken_out}
use Rattle.inbox.proofs.KeyedOps.{IsFound, found, is_there, not_found}
use Rattle.inbox.proofs.inbox.Inbox.take.Goals as goal

-- ---- nothing was found

without : (c : goal.After-from_residual)
    → IsWithout c.args.id c.args.self.now c.self.inside.ops c.remove.new.self.entries c.self.inside.waits
without c =
    none_out _ _ _ _ _ _ c.self.view_is c.remove.ensures.entries (sym c.in_err-key.ensures.number) c.self.invariant

pub invariant_of-self : goal.invariant_of-self
invariant_of-self c = (without c).stored

pub returns-in_err-key-clause-none : goal.returns-in_err-key-clause-none
returns-in_err-key-clause-none c =
    not_found c.self.inside.ops _ _ c.args.id c.self.invariant.at_keys c.self.view_is _ (sym c.in_err-key.ensures.number)

pub returns-in_err-key-clause-left : goal.returns-in_err-key-clause-left
returns-in_err-key-clause-left c = (without c).left

pub returns-in_err-key-clause-among : goal.returns-in_err-key-clause-among
returns-in_err-key-clause-among c = (without c).among

-- ---- an operation was found

pub unreachable-requires : goal.unreachable-requires
unreachable-requires c = is_there c.self.inside.ops c.args.self.now c.args.id c.in_ok-key.key
    (found _ _ _ _ c.self.invariant.at_keys c.self.view_is c.in_ok-key.key (sym c.in_ok-key.ensures.number)) c.in_default.ensures.value

pub forget-requires : goal.forget-requires
forget-requires c = record {
  there = (c.self.inside.ops, c.self.inside.keys.entries, sym c.in-Some.ensures.value, c.self.invariant.awaiting);
}

at_key : (c : goal.After-into_op) → IsFound c.self.inside.ops c.args.self.now c.args.id c.in_ok-key.key
at_key c = found _ _ _ _ c.self.invariant.at_keys c.self.view_is _ (sym c.in_ok-key.ensures.number)

-- it is the one that was taken out of the slab
is_it : (c : goal.After-into_op) → (at_key c).op ≡ c.in-Some.waiting
is_it c = let f = at_key c in let here = f.at_key in let e = c.in-Some.ensures.value in cc

taken : (c : goal.After-into_op)
    → IsWithout c.args.id c.args.self.now c.try_remove.new.self c.remove.new.self.entries c.forget.new.self
taken c = taken_out _ _ _ _ _ _ c.self.view_is c.remove.ensures.entries c.self.inside.waits _ _ (sym c.in_ok-key.ensures.number) (at_key c)
    c.try_remove.ensures.updates
    (subst (λ a. IsForgotten c.self.inside.waits c.forget.new.self a c.in_ok-key.key)
    (ap (λ (o : Op). o.id) (sym (is_it c)) ∙ (at_key c).id) c.forget.ensures)
    c.self.invariant

pub invariant_of-self-2 : goal.invariant_of-self-2
invariant_of-self-2 c = (taken c).stored

pub returns-clause-some : goal.returns-clause-some
returns-clause-some c =
    let f = at_key c in
    subst (λ (o : Op). (o.id ≡ c.args.id) × IsAmong o c.args.self.now) (is_it c ∙ sym c.into_op.ensures) (f.id, f.among)

pub returns-clause-left : goal.returns-clause-left
returns-clause-left c = (taken c).left

pub returns-clause-among : goal.returns-clause-among
returns-clause-among c = (taken c).among
