use Rattle.std.proofs.Common.{◌≡◌, ◌++◌, List, ap, ◌∙◌}
use Rattle.json.specs.Print.{print}
use Rattle.json.specs.Token.{Token}
use Rattle.serde_json.proofs.Texts.{print-outline}
use Rattle.requests.specs.operation.Ops.{entry_of}
use Rattle.semantics.specs.Journals.{recorded}
use Rattle.requests.specs.wire.Writing.{tokens_of}
use Rattle.records.specs.Lines.{record_json}
use Rattle.records.proofs.writing.with_record.Goals as goal

pub returns : goal.returns
returns c =
    let d = record_json (recorded (entry_of c.args.entry.now)) in
    let wrote = c.in_ok-put_record.ensures in
    let all : c.put_record.new.out.tokens ≡ tokens_of d = wrote.tokens
    ∙ ap (λ (ts : List Token). ts ++ tokens_of d) c.new-out.ensures.tokens in
    c.into_inner.ensures.items
    ∙ (λ i. (wrote.before ∙ c.new-out.ensures.before) i ++ (ap print all ∙ print-outline d) i)
