use Rattle.std.proofs.Common.{◌≡◌, ◌++◌, List, [], ◌∷◌, codes, decimal, rules, ◌∙◌}
use Rattle.std.proofs.lemmas.Result.{on_ok_weaker}
use Rattle.json.specs.Token.{Token, begin_array, end_array, number, string}
use Rattle.requests.specs.Readings.{refusal_name}
use Rattle.requests.proofs.Tokens.{after}
use Rattle.scripts.proofs.replies.put_received_until.Goals as goal

pub returns : goal.returns
returns c =
    let old : List Token = c.args.out.now.tokens in
    let opened : List Token = c.begin_array.new.self.tokens in
    let named : List Token = c.string.new.self.tokens in
    let first : List Token = c.u64.new.self.tokens in
    let second : List Token = c.u64-2.new.self.tokens in
    let third : List Token = c.u64-3.new.self.tokens in
    let told : List Token = c.put_refusal.new.out.tokens in
    let closed : List Token = c.end_array.new.self.tokens in
    let word : Token = string (codes "received") in
    let a : Token = number (decimal c.args.first) in
    let b : Token = number (decimal c.args.submitted) in
    let l : Token = number (decimal c.args.line) in
    let why : Token = string (refusal_name c.args.why) in
    let at_open : opened ≡ old ++ begin_array ∷ [] = search rules in
    let at_name : named ≡ opened ++ word ∷ [] = search rules in
    let at_first : first ≡ named ++ a ∷ [] = search rules in
    let at_second : second ≡ first ++ b ∷ [] = search rules in
    let at_third : third ≡ second ++ l ∷ [] = search rules in
    let to_name : named ≡ old ++ begin_array ∷ word ∷ [] = after old opened named (begin_array ∷ []) (word ∷ []) at_open at_name in
    let to_first : first ≡ old ++ begin_array ∷ word ∷ a ∷ [] = after old named first (begin_array ∷ word ∷ []) (a ∷ []) to_name at_first in
    let to_second : second ≡ old ++ begin_array ∷ word ∷ a ∷ b ∷ [] = after old first second (begin_array ∷ word ∷ a ∷ []) (b ∷ [])
    to_first at_second in
    let to_third : third ≡ old ++ begin_array ∷ word ∷ a ∷ b ∷ l ∷ [] = after old second third (begin_array ∷ word ∷ a ∷ b ∷ []) (l ∷ [])
    to_second at_third in
    let to_why : told ≡ old ++ begin_array ∷ word ∷ a ∷ b ∷ l ∷ why ∷ [] = after old third told (begin_array ∷ word ∷ a ∷ b ∷ l ∷ [])
    (why ∷ []) to_third c.in_ok-put_refusal.ensures.tokens in
    let kept : c.put_refusal.new.out.before ≡ c.args.out.now.before = search rules in
    on_ok_weaker c.end_array.result (λ e. record {
      tokens = after old told closed (begin_array ∷ word ∷ a ∷ b ∷ l ∷ why ∷ []) (end_array ∷ []) to_why e;
      before = c.end_array.ensures.room.0 ∙ kept;
    }) c.end_array.ensures.ok
