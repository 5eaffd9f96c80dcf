use Rattle.std.proofs.Common.{◌≡◌, ◌++◌, List, IsUtf8, ap, ◌∙◌, subst}
use Rattle.json.specs.Print.{print}
use Rattle.json.specs.Token.{Token}
use Rattle.serde_json.proofs.Texts.{print-outline}
use Rattle.operation.specs.Ops.{stamped_of}
use Rattle.semantics.specs.Vectors.{Vector}
use Rattle.wire.specs.Profiles.{op2_json}
use Rattle.wire.specs.Writing.{tokens_of}
use Rattle.wire.proofs.ReadBeside.{line_form-op2_line}
use Rattle.wire.proofs.writing.with_line_beside.Goals as goal

pub returns-clause-line : goal.returns-clause-line
returns-clause-line c =
    let base : Vector = c.args.base.now in
    let s = stamped_of c.args.op.now in
    let wrote = c.in_ok-put_op_beside.ensures.json in
    let all : c.put_op_beside.new.out.tokens ≡ tokens_of (op2_json base s) = wrote.tokens
    ∙ ap (λ (ts : List Token). ts ++ tokens_of (op2_json base s)) c.new-out.ensures.tokens in
    c.into_inner.ensures.items
    ∙ (λ i. (wrote.before ∙ c.new-out.ensures.before) i ++ (ap print all ∙ print-outline (op2_json base s)) i)

pub returns-clause-reads_back : goal.returns-clause-reads_back
returns-clause-reads_back c sent =
    let base : Vector = c.args.base.now in
    let s = stamped_of c.args.op.now in
    let all : c.put_op_beside.new.out.tokens ≡ tokens_of (op2_json base s) = c.in_ok-put_op_beside.ensures.json.tokens
    ∙ ap (λ (ts : List Token). ts ++ tokens_of (op2_json base s)) c.new-out.ensures.tokens in
    line_form-op2_line base s c.requires (c.in_ok-put_op_beside.ensures.sent sent)
    (subst IsUtf8 (ap print all ∙ print-outline (op2_json base s)) c.into_inner.ensures.utf8)
