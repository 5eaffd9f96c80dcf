use Rattle.std.proofs.Common.{◌≡◌, ◌≤◌, ◌∷◌, None, Some, length, arith, rules}
use Rattle.std.proofs.lemmas.Bool.{le-ltb}
use Rattle.json.specs.Json.{after_end_array, read_key}
use Rattle.json.specs.Reads.{token_of}
use Rattle.semantics.specs.Elements as element
use Rattle.semantics.specs.Limits.{most_text_bytes}
use Rattle.serde_json.specs.Data.{array, boolean, no_items, no_members, null, number, object, string}
use Rattle.document.specs.value.Values.{value_of}
use Rattle.requests.proofs.TakenParts.{all_parts, deeper, empty_object, no_part, null_is_read, number_is_read, text_is_read, truth_is_read}
use Rattle.requests.proofs.parts.take_value.Goals as goal

pub returns-in_ok-ok-in-String : goal.returns-in_ok-ok-in-String
returns-in_ok-ok-in-String c =
    let text = c.in-String.text.now in
    let first : c.args.reader.now ≡ token_of c.in_ok-text.field-0 ∷ c.next.new.self = grind arith in
    let is : (value_of c.in_ok-ok-in-String.field-0 ≡ element.Plain (element.Text text)) × (length text ≤ most_text_bytes) = search rules in
    (string text, deeper 0 1 _ _ _ (omega arith) (text_is_read _ _ text (grind (arith, first))), rw (le-ltb _ _ is.1, is.0))

pub returns-in_ok-signed_of-in-Number : goal.returns-in_ok-signed_of-in-Number
returns-in_ok-signed_of-in-Number c =
    let text = c.in-Number.text.now in
    let first : c.args.reader.now ≡ token_of c.in_ok-text.field-0 ∷ c.next.new.self = grind arith in
    let n = c.in_ok-signed_of-in-Number.ensures in
    let said : value_of c.whole_value.result ≡ element.Plain (element.Whole c.in_ok-signed_of-in-Number.field-0) = search rules in (
      number n.0,
      deeper 0 1 _ _ _ (omega arith) (number_is_read _ _ text n.0 (grind (arith, first)) n.1),
      rw (n.2, said),
    )

pub returns-in-BeginArray : goal.returns-in-BeginArray
returns-in-BeginArray c =
    let first : c.args.reader.now ≡ token_of c.in_ok-text.field-0 ∷ c.next.new.self = grind arith in
    let ends : after_end_array c.next.new.self ≡ Some c.take_end_array.new.self = search rules in
    (array no_items, all_parts 0 _ _ _ no_items (grind (arith, first)) (no_part 0 _ _ ends), search rules)

pub returns-in-BeginObject : goal.returns-in-BeginObject
returns-in-BeginObject c =
    let first : c.args.reader.now ≡ token_of c.in_ok-text.field-0 ∷ c.next.new.self = grind arith in
    let over : read_key c.next.new.self ≡ Some (None, c.is_over.new.reader) = search rules in
    (object no_members, empty_object _ _ _ (grind (arith, first)) over, search rules)

pub returns-in-Bool : goal.returns-in-Bool
returns-in-Bool c =
    let first : c.args.reader.now ≡ token_of c.in_ok-text.field-0 ∷ c.next.new.self = grind arith in
    (boolean c.in-Bool.truth, deeper 0 1 _ _ _ (omega arith) (truth_is_read _ _ c.in-Bool.truth (grind (arith, first))), search rules)

pub returns-in-Null : goal.returns-in-Null
returns-in-Null c =
    let first : c.args.reader.now ≡ token_of c.in_ok-text.field-0 ∷ c.next.new.self = grind arith in
    (null, deeper 0 1 _ _ _ (omega arith) (null_is_read _ _ (grind (arith, first))), search rules)
