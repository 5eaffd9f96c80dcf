use Rattle.std.proofs.Common.{◌≡◌, ◌++◌, List, IsUtf8, ap, ◌∙◌, subst}
use Rattle.json.specs.Print.{print}
use Rattle.json.specs.Token.{Token}
use Rattle.serde_json.proofs.Texts.{print-outline}
use Rattle.operation.specs.Ops.{stamped_of}
use Rattle.wire.specs.Operations.{operation_json}
use Rattle.wire.specs.Writing.{tokens_of}
use Rattle.wire.proofs.WholeOperations.{op_form-op_line}
use Rattle.wire.proofs.writing.with_line.Goals as goal

pub returns-clause-line : goal.returns-clause-line
returns-clause-line c =
    let s = stamped_of c.args.op.now in
    let wrote = c.in_ok-put_op.ensures.json in
    let all : c.put_op.new.out.tokens ≡ tokens_of (operation_json s) = wrote.tokens
    ∙ ap (λ (ts : List Token). ts ++ tokens_of (operation_json s)) c.new-out.ensures.tokens in
    c.into_inner.ensures.items
    ∙ (λ i. (wrote.before ∙ c.new-out.ensures.before) i ++ (ap print all ∙ print-outline (operation_json s)) i)

pub returns-clause-reads_back : goal.returns-clause-reads_back
returns-clause-reads_back c sent =
    let s = stamped_of c.args.op.now in
    let all : c.put_op.new.out.tokens ≡ tokens_of (operation_json s) = c.in_ok-put_op.ensures.json.tokens
    ∙ ap (λ (ts : List Token). ts ++ tokens_of (operation_json s)) c.new-out.ensures.tokens in
    op_form-op_line s (c.in_ok-put_op.ensures.sent sent)
    (subst IsUtf8 (ap print all ∙ print-outline (operation_json s)) c.into_inner.ensures.utf8)
