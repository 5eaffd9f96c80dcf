use Rattle.std.proofs.Common.{◌≡◌, ◌++◌, ℕ, List, IsUtf8, ap, sym, ◌∙◌, subst}
use Rattle.json.specs.Print.{print}
use Rattle.json.specs.Token.{Token}
use Rattle.serde_json.proofs.Texts.{print-outline}
use Rattle.serde_json.specs.Data.{null}
use Rattle.requests.specs.wire.Writing.{tokens_of}
use Rattle.calls.specs.Responses.{response_json}
use Rattle.calls.proofs.writing.token_text.Goals as goal

pub returns-clause-text : goal.returns-clause-text
returns-clause-text c = λ shown.
    let d = response_json shown c.args.response.now in
    let wrote = c.in_ok-put_response.ensures shown in
    let all : c.put_response.new.out.tokens ≡ tokens_of d = wrote.tokens
    ∙ ap (λ (ts : List Token). ts ++ tokens_of d) c.new-out.ensures.tokens in
    c.into_inner.ensures.items
    ∙ (λ i. (wrote.before ∙ c.new-out.ensures.before ∙ c.new.ensures.items) i ++ (ap print all ∙ print-outline d) i)

pub returns-clause-utf8 : goal.returns-clause-utf8
returns-clause-utf8 c =
    let wrote = c.in_ok-put_response.ensures null in
    let text : List ℕ = print c.put_response.new.out.tokens in
    subst IsUtf8
    (sym (c.into_inner.ensures.items ∙ ap (λ bs. bs ++ text) (wrote.before ∙ c.new-out.ensures.before ∙ c.new.ensures.items)))
    c.into_inner.ensures.utf8
