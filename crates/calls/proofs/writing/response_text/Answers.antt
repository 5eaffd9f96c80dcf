use Rattle.std.proofs.Common.{◌≡◌, ℕ, List}
use Rattle.std.specs.Prelude.{IfOk, Result, Ok, Err}
use Rattle.serde_json.specs.Data.{Data, null}
use Rattle.serde_json.specs.Written.{compact_text}
use Rattle.calls.specs.declared.response.Response.{Response}
use Rattle.calls.specs.Responses.{response_json}
use Rattle.calls.proofs.writing.response_text.Goals as goal

-- what is written whatever a glance shows is also written if it shows nothing
any : {V E : Type 0} (items : V → List ℕ) (said : Response) (r : Result V E)
    → IfOk r (λ t. (shown : Data) → items t ≡ compact_text (response_json shown said))
    → IfOk r (λ t. (shown : Data) × (items t ≡ compact_text (response_json shown said)))
any items said (Ok t) is = (null, is null)
any items said (Err e) is = tt

pub returns-in_default : goal.returns-in_default
returns-in_default c = record {
  text = any (λ t. t.items) c.args.response.now c.token_text.result c.token_text.ensures.text;
  utf8 = c.token_text.ensures.utf8;
}
