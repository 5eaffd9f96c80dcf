use Rattle.std.proofs.Common.{◌≡◌, sym, ◌∙◌, Bor, Option, Some, None, option_copied}
use Rattle.std.specs.Prelude.{IfNone}
use Rattle.semantics.specs.LegalHistory.{IsAmong}
use Rattle.document.specs.operation.declared.op.Op.{Op}
use Rattle.inbox.proofs.KeyedOps.{found, not_found, some_of}
use Rattle.inbox.proofs.inbox.Inbox.get.Goals as goal

none_of : (P : Type 0) (r : Option (Bor Op)) (o : Op) → option_copied r ≡ Some o → IfNone r P
none_of P None o e = absurd (let no : ⊥ = cc in no)
none_of P (Some x) o e = tt

pub returns-in_err-key-clause-none : goal.returns-in_err-key-clause-none
returns-in_err-key-clause-none c =
    not_found c.self.inside.ops _ _ c.args.id c.self.invariant.at_keys c.self.view_is _ (sym c.in_err-key.ensures)

pub returns-clause-some : goal.returns-clause-some
returns-clause-some c =
    let f = found c.self.inside.ops _ _ c.args.id c.self.invariant.at_keys c.self.view_is c.in_ok-key.key (sym c.in_ok-key.ensures) in
    some_of (λ o. (o.id ≡ c.args.id) × IsAmong o c.args.self.now) c.op_at.result f.op (c.op_at.ensures ∙ f.at_key) (f.id, f.among)

pub returns-clause-none : goal.returns-clause-none
returns-clause-none c =
    let f = found c.self.inside.ops _ _ c.args.id c.self.invariant.at_keys c.self.view_is c.in_ok-key.key (sym c.in_ok-key.ensures) in
    none_of _ c.op_at.result f.op (c.op_at.ensures ∙ f.at_key)
