use Rattle.std.proofs.Common.{rules, ◌≡◌, List, ℕ, Result, Ok, Err, ap, ◌∙◌}
use Rattle.std.specs.Prelude.{IfOk, OnOk}
use Rattle.semantics.specs.Stamped.{Stamped}
use Rattle.operation.specs.Ops.{stamped_of}
use Rattle.wire.specs.Messages.{op_line}
use Rattle.wire.specs.Reading.{op_form}
use Rattle.wire.specs.Sent.{CanBeSent}
use Rattle.wire.proofs.messages.write_op.Goals as goal

-- the text is the line, and the line is read as the operation
text_back : {V E : Type 0} (items : V → List ℕ) (s : Stamped) (r : Result V E) → IfOk r (λ t. items t ≡ op_line s)
    → OnOk r (CanBeSent s → op_form (op_line s) ≡ Ok s)
    → IfOk r (λ t. CanBeSent s → op_form (items t) ≡ Ok s)
text_back items s (Ok t) is back = λ sent. ap op_form is ∙ back sent
text_back items s (Err e) is back = tt

pub returns-clause-reads_back : goal.returns-clause-reads_back
returns-clause-reads_back c =
    let s = stamped_of c.args.op.now in
    let line : IfOk c.with_line.result (λ t. t.items ≡ op_line s) = search rules in
    text_back (λ t. t.items) s c.with_line.result line c.with_line.ensures.reads_back
