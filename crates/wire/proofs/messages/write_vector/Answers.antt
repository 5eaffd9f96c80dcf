use Rattle.std.proofs.Common.{◌≡◌, ◌++◌, [], List, IsUtf8, ap, ◌∙◌, subst, rules}
use Rattle.json.specs.Print.{print}
use Rattle.json.specs.Token.{Token}
use Rattle.serde_json.proofs.Texts.{print-outline}
use Rattle.wire.specs.Messages.{hello_form, hello_json}
use Rattle.wire.specs.Writing.{tokens_of}
use Rattle.wire.proofs.ReadBack.{sent_named}
use Rattle.wire.proofs.WholeOperations.{hello_form-vector_line}
use Rattle.wire.proofs.messages.write_vector.Goals as goal

pub returns-clause-line : goal.returns-clause-line
returns-clause-line c =
    let v = c.args.vector.now in
    let wrote = c.in_ok-put_hello.ensures.json in
    let all : c.put_hello.new.out.tokens ≡ tokens_of (hello_json v) = wrote.tokens
    ∙ ap (λ (ts : List Token). ts ++ tokens_of (hello_json v)) c.new-out.ensures.tokens in
    let before : c.put_hello.new.out.before ≡ [] = search rules in
    c.into_inner.ensures.items ∙ (λ i. before i ++ (ap print all ∙ print-outline (hello_json v)) i)

pub returns-clause-reads_back : goal.returns-clause-reads_back
returns-clause-reads_back c counters =
    let v = c.args.vector.now in
    let named = c.in_ok-put_hello.ensures.named in
    let all : c.put_hello.new.out.tokens ≡ tokens_of (hello_json v) = c.in_ok-put_hello.ensures.json.tokens
    ∙ ap (λ (ts : List Token). ts ++ tokens_of (hello_json v)) c.new-out.ensures.tokens in
    let before : c.put_hello.new.out.before ≡ [] = search rules in
    let text = c.into_inner.ensures.items ∙ (λ i. before i ++ (ap print all ∙ print-outline (hello_json v)) i) in
    ap hello_form text
    ∙ hello_form-vector_line v (sent_named v named.canonical c.in_ok-put_hello.ensures.typed counters) named.few
    (subst IsUtf8 (ap print all ∙ print-outline (hello_json v)) c.into_inner.ensures.utf8)
