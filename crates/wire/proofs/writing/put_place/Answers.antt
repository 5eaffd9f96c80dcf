use Rattle.std.proofs.Common.{rules, ◌≡◌, ◌++◌, ◌∷◌, [], false, List, map, refl, sym, ap, ◌∙◌, append_assoc, append-nil}
use Rattle.std.proofs.lemmas.Result.{on_ok_weaker}
use Rattle.json.specs.Token.{Token, begin_array, end_array}
use Rattle.serde_json.specs.Data.{Data}
use Rattle.semantics.specs.Elements.{Place, At, HeadOf}
use Rattle.semantics.specs.Operations.{element_of}
use Rattle.semantics.specs.Paths.{hops_from_root}
use Rattle.operation.specs.cursor.Steps.{hop_of}
use Rattle.operation.specs.cursor.Places.{is_head}
use Rattle.operation.specs.cursor.declared.hop.Hop.{Hop}
use Rattle.wire.specs.Operations.{last_from, last_json, parts_from, parts_of, root_json}
use Rattle.wire.specs.Writing.{key_before, key_of, tokens_of, tokens_of_all}
use Rattle.wire.proofs.writing.put_place.Goals as goal

element_parts : (p : Place) → is_head p ≡ false → parts_of p ≡ parts_from root_json (hops_from_root (element_of p))
element_parts (At e) h = refl
element_parts (HeadOf l) h = absurd (cc)

element_last : (p : Place) → is_head p ≡ false → last_json p ≡ last_from root_json (hops_from_root (element_of p))
element_last (At e) h = refl
element_last (HeadOf l) h = absurd (cc)

-- a list after what was there, and then its last key
both : (old first parts closed : List Token) (b e : Token) (all last : List Token) → first ≡ old ++ b ∷ [] → parts ++ e ∷ [] ≡ first ++ all
    → closed ≡ parts ++ e ∷ [] → closed ++ last ≡ old ++ b ∷ (all ++ last)
both old first parts closed b e all last opened written is =
    ap (λ (ts : List Token). ts ++ last) (is ∙ written ∙ ap (λ (ts : List Token). ts ++ all) opened)
    ∙ append_assoc (old ++ b ∷ []) all last
    ∙ append_assoc old (b ∷ []) (all ++ last)

pub returns-clause-json : goal.returns-clause-json
returns-clause-json c =
    let p = c.args.place.now in
    let hops : List Hop = c.hops.result.now in
    let old : List Token = c.args.out.now.tokens in
    let first : List Token = c.begin_array.new.self.tokens in
    let parts : List Token = c.put_parts.new.out.tokens in
    let closed : List Token = c.end_array-2.new.self.tokens in
    let here : Data = key_before (key_of c.in_ok-last.last) in
    let other : is_head p ≡ false = search rules in
    let all : parts_from root_json (map hop_of hops) ++ [] ≡ parts_of p = append-nil (parts_from root_json (map hop_of hops))
    ∙ ap (parts_from root_json) c.hops.ensures ∙ sym (element_parts p other) in
    let own : here ≡ last_json p = c.in_ok-last.ensures.last ∙ ap (last_from root_json) c.hops.ensures ∙ sym (element_last p other) in
    let opened : first ≡ old ++ begin_array ∷ [] = search rules in
    let is : closed ≡ parts ++ end_array ∷ [] = search rules in
    let written = c.in_ok-last.ensures.json [] in
    let kept : c.end_array-2.new.self.before ≡ c.args.out.now.before = search rules in
    on_ok_weaker c.put_key.result (λ w. record {
      tokens =
          w.tokens
          ∙ both old first parts closed begin_array end_array (tokens_of_all (parts_from root_json (map hop_of hops) ++ []))
          (tokens_of here)
          opened written is
          ∙ (λ i. old ++ begin_array ∷ (tokens_of_all (all i) ++ tokens_of (own i)));
      before = w.before ∙ kept;
    }) c.put_key.ensures
