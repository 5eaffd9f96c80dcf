use Rattle.std.proofs.Common.{◌≡◌, ◌++◌, List, [], ◌∷◌, codes, decimal, rules, ap, append_assoc, ◌∙◌}
use Rattle.std.proofs.lemmas.Result.{on_ok_weaker}
use Rattle.json.specs.Token.{Token, begin_array, end_array, number, string}
use Rattle.requests.specs.wire.Writing.{tokens_of}
use Rattle.requests.proofs.Tokens.{after}
use Rattle.calls.specs.Responses.{refused_json, stopped_json}
use Rattle.calls.proofs.writing.put_received.Goals as goal

pub returns : goal.returns
returns c =
    let old : List Token = c.args.out.now.tokens in
    let opened : List Token = c.begin_array.new.self.tokens in
    let named : List Token = c.string.new.self.tokens in
    let counted : List Token = c.u64.new.self.tokens in
    let refused : List Token = c.put_refused_lines.new.out.tokens in
    let stopped : List Token = c.put_stopped_line.new.out.tokens in
    let closed : List Token = c.end_array.new.self.tokens in
    let word : Token = string (codes "received") in
    let taken : Token = number (decimal c.args.taken) in
    let rs : List Token = tokens_of (refused_json c.args.refused) in
    let ss : List Token = tokens_of (stopped_json c.args.stopped) in
    let at_open : opened ≡ old ++ begin_array ∷ [] = search rules in
    let at_name : named ≡ opened ++ word ∷ [] = search rules in
    let at_count : counted ≡ named ++ taken ∷ [] = search rules in
    let front : List Token = begin_array ∷ word ∷ taken ∷ [] in
    let to_name : named ≡ old ++ begin_array ∷ word ∷ [] = after old opened named (begin_array ∷ []) (word ∷ []) at_open at_name in
    let to_count : counted ≡ old ++ front = after old named counted (begin_array ∷ word ∷ []) (taken ∷ []) to_name at_count in
    let to_refused : refused ≡ old ++ (front ++ rs) = after old counted refused front rs to_count
    c.in_ok-put_refused_lines.ensures.tokens in
    let to_stopped : stopped ≡ old ++ ((front ++ rs) ++ ss) = after old refused stopped (front ++ rs) ss to_refused
    c.in_ok-put_stopped_line.ensures.tokens in
    let kept : c.put_stopped_line.new.out.before ≡ c.args.out.now.before = search rules in
    on_ok_weaker c.end_array.result (λ e. record {
      tokens = after old stopped closed ((front ++ rs) ++ ss) (end_array ∷ []) to_stopped e
          ∙ ap (λ (ts : List Token). old ++ begin_array ∷ word ∷ taken ∷ ts) (append_assoc rs ss (end_array ∷ []));
      before = c.end_array.ensures.room.0 ∙ kept;
    }) c.end_array.ensures.ok
