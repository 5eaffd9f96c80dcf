use Rattle.std.proofs.Common.{◌≡◌, ◌++◌, List, [], ◌∷◌, codes, decimal, rules, sym, subst, ◌∙◌}
use Rattle.std.specs.Prelude.{OnOk}
use Rattle.std.proofs.lemmas.Result.{on_ok_weaker}
use Rattle.json.specs.Token.{Token, begin_array, end_array, number, string}
use Rattle.serde_json.specs.Data.{Data}
use Rattle.wire.specs.Operations.{phrase}
use Rattle.wire.specs.Vectors.{count}
use Rattle.wire.specs.Writing.{IsWritten, tokens_of}
use Rattle.requests.proofs.Tokens.{after}
use Rattle.requests.proofs.readings.put_reading.Goals as goal

pub returns : goal.returns
returns c =
    let old : List Token = c.args.out.now.tokens in
    let opened : List Token = c.begin_array.new.self.tokens in
    let named : List Token = c.string.new.self.tokens in
    let counted : List Token = c.u64.new.self.tokens in
    let told : List Token = c.put_answer.new.out.tokens in
    let closed : List Token = c.end_array.new.self.tokens in
    let answer : Data = c.in_ok-put_answer.ensures.0 in
    let written : IsWritten (tokens_of answer) c.u64.new.self c.put_answer.new.out = c.in_ok-put_answer.ensures.2 in
    let word : List Token = begin_array ∷ string (codes "reading") ∷ [] in
    let front : List Token = begin_array ∷ string (codes "reading") ∷ number (decimal c.args.seen) ∷ [] in
    let first : opened ≡ old ++ begin_array ∷ [] = search rules in
    let second : named ≡ opened ++ string (codes "reading") ∷ [] = search rules in
    let third : counted ≡ named ++ number (decimal c.args.seen) ∷ [] = search rules in
    let three : counted ≡ old ++ front = after old named counted word (number (decimal c.args.seen) ∷ [])
    (after old opened named (begin_array ∷ []) (string (codes "reading") ∷ []) first second) third in
    let four : told ≡ old ++ (front ++ tokens_of answer) = after old counted told front (tokens_of answer) three written.tokens in
    let kept : c.u64.new.self.before ≡ c.args.out.now.before = search rules in
    let whole : OnOk c.end_array.result
    (IsWritten (tokens_of (phrase (codes "reading") (count c.args.seen ∷ answer ∷ []))) c.args.out.now c.end_array.new.self) = on_ok_weaker
    c.end_array.result (λ e. record {
      tokens = after old told closed (front ++ tokens_of answer) (end_array ∷ []) four e;
      before = c.end_array.ensures.room.0 ∙ written.before ∙ kept;
    }) c.end_array.ensures.ok in
    let same = sym (c.in_ok-put_answer.ensures.1 c.args.seen) in
    on_ok_weaker c.end_array.result (subst (λ (d : Data). IsWritten (tokens_of d) c.args.out.now c.end_array.new.self) same) whole
