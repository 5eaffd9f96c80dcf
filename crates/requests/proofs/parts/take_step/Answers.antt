use Rattle.std.proofs.Common.{◌≡◌, ◌≤◌, ◌∷◌, Option, None, Some, IfSome, length, arith, rules}
use Rattle.std.proofs.lemmas.Bool.{le-ltb}
use Rattle.json.specs.Reads.{token_of}
use Rattle.json.specs.Token.{Token}
use Rattle.semantics.specs.Limits.{most_key_bytes}
use Rattle.serde_json.specs.Data.{array, number, string, unsigned}
use Rattle.serde_json.specs.Read.{number_of}
use Rattle.document.specs.cursor.declared.expression.Step.{Step}
use Rattle.requests.proofs.TakenCommands.{index_meant}
use Rattle.requests.proofs.TakenParts.{all_parts, deeper, number_is_read, text_is_read}
use Rattle.requests.proofs.parts.take_step.Goals as goal

pub returns-in_ok-ok-in-String : goal.returns-in_ok-ok-in-String
returns-in_ok-ok-in-String c =
    let text = c.in-String.text.now in
    let first : c.args.reader.now ≡ token_of c.in_ok-text.field-0 ∷ c.next.new.self = grind arith in
    let key : (c.in_ok-ok-in-String.field-0 ≡ text) × (length text ≤ most_key_bytes) = search rules in
    (string text, deeper 0 1 _ _ _ (omega arith) (text_is_read _ _ text (grind (arith, first))), rw (le-ltb _ _ key.1, key.0))

pub returns-in_ok-whole_of-in-Number : goal.returns-in_ok-whole_of-in-Number
returns-in_ok-whole_of-in-Number c =
    let text = c.in-Number.text.now in
    let whole = c.in_ok-whole_of-in-Number.field-0 in
    let first : c.args.reader.now ≡ token_of c.in_ok-text.field-0 ∷ c.next.new.self = grind arith in
    let is : number_of text ≡ Some (unsigned whole) = search rules in (
      number (unsigned whole),
      deeper 0 1 _ _ _ (omega arith) (number_is_read _ _ text (unsigned whole) (grind (arith, first)) is),
      index_meant c.args.edition whole,
    )

pub returns-in-BeginArray : goal.returns-in-BeginArray
returns-in-BeginArray c =
    let first : c.args.reader.now ≡ token_of c.in_ok-text.field-0 ∷ c.next.new.self = grind arith in
    let opened : c.args.reader.now ≡ Token.begin_array ∷ c.next.new.self = grind (arith, first) in
    each c.take_item.result (λ step parts. (array parts.0, all_parts 0 _ _ _ parts.0 opened parts.1, parts.2)) c.take_item.ensures
  where
    each : {P Q : Step → Type 0} (o : Option Step) → ((x : Step) → P x → Q x) → IfSome o P → IfSome o Q
    each None f h = tt
    each (Some x) f h = f x h
