use Rattle.std.proofs.Common.{◌≡◌, ◌∷◌, Some, None, IfSome, ℕ, Option, arith}
use Rattle.json.specs.Reads.{token_of}
use Rattle.json.specs.Token.{Token}
use Rattle.serde_json.specs.Data.{unsigned}
use Rattle.requests.proofs.TakenParts.{number_is_read}
use Rattle.requests.proofs.parts.take_whole.Goals as goal

pub returns-in-Number : goal.returns-in-Number
returns-in-Number c =
    let text = c.in-Number.text.now in
    let first : c.args.reader.now ≡ token_of c.in_ok-text.field-0 ∷ c.next.new.self = grind arith in
    let is : c.args.reader.now ≡ Token.number text ∷ c.next.new.self = grind (arith, first) in
    each c.whole_of.result (λ n e. number_is_read _ _ text (unsigned n) is e) c.whole_of.ensures
  where
    each : {P Q : ℕ → Type 0} (o : Option ℕ) → ((n : ℕ) → P n → Q n) → IfSome o P → IfSome o Q
    each None f h = tt
    each (Some n) f h = f n h
