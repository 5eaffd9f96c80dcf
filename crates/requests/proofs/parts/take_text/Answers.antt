use Rattle.std.proofs.Common.{◌≡◌, ◌∷◌, arith}
use Rattle.json.specs.Reads.{token_of}
use Rattle.requests.proofs.TakenParts.{text_is_read}
use Rattle.requests.proofs.parts.take_text.Goals as goal

pub returns-in-String : goal.returns-in-String
returns-in-String c =
    let first : c.args.reader.now ≡ token_of c.in_ok-text.field-0 ∷ c.next.new.self = grind arith in
    text_is_read _ _ c.in-String.text.now (grind (arith, first))
