use Rattle.std.proofs.Common.{rules, ◌≡◌, ℕ, List, IsTrue, Ok, sym, ap, ◌∙◌, subst}
use Rattle.operation.specs.Ops.{stamped_of}
use Rattle.operation.specs.declared.op.Op.{Op}
use Rattle.wire.specs.Messages.{op_line}
use Rattle.wire.specs.Reading.{op_form}
use Rattle.measures.proofs.lines.agreement.is_line_read_back.Goals as goal

-- what was read is written again by its own reference
pub returns-in-Ok-clause-same : goal.returns-in-Ok-clause-same
returns-in-Ok-clause-same c =
    let op : Op = c.args.op.now in
    let again : Op = c.in-Ok.again in
    let line : List ℕ = c.in_ok-line.line.items in
    let rewritten : List ℕ = c.in_ok-rewritten-in-Ok.rewritten.items in
    let is : line ≡ op_line (stamped_of op) = c.in_ok-line.ensures.line in
    let is_again : rewritten ≡ op_line (stamped_of again) =
    c.in_ok-rewritten-in-Ok.ensures.line ∙ ap (λ (o : Op). op_line (stamped_of o)) c.deref.ensures in
    let read : op_form line ≡ Ok (stamped_of again) = search rules in
    let equal : IsTrue c.eq.result → rewritten ≡ line = search rules in
    λ same. (stamped_of again, subst (λ (l : List ℕ). op_form l ≡ Ok (stamped_of again)) is read, sym is_again ∙ equal same ∙ is)
