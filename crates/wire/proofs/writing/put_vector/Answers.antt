use Rattle.std.proofs.Common.{◌≡◌, ◌+◌, ◌++◌, ◌∷◌, [], ℕ, List, map, drop, drop-cons, sym, ap, ◌∙◌, append_assoc, add-one, subst}
use Rattle.std.proofs.lemmas.List.{drop_all}
use Rattle.std.proofs.lemmas.Result.{on_ok_weaker}
use Rattle.json.specs.Token.{Token}
use Rattle.semantics.specs.Ids.{OpId}
use Rattle.wire.specs.Sent.{AreReplicaNumbers}
use Rattle.wire.specs.Vectors.{pair_json}
use Rattle.wire.specs.Writing.{tokens_of, tokens_of_all}
use Rattle.wire.proofs.writing.put_vector.Goals as goal

-- one more pair was written, and the others are left
pub loop-id-preserved : goal.loop-id-preserved
loop-id-preserved c =
    let ids : List OpId = c.args.ids.now in
    let n : ℕ = c.loop-id.id-index in
    let a : OpId = c.id-item.result in
    let left : List OpId = drop (n + 1) ids in
    let next : drop n ids ≡ a ∷ left = drop-cons ids n a c.loop-id-test.true ∙ (λ i. sym c.id-item.is i ∷ drop (sym (add-one n) i) ids) in
    let before : List Token = c.loop-id.out.tokens in
    record {
      json =
          ap (λ (ts : List Token). ts ++ tokens_of_all (map pair_json left)) c.in_ok-put_pair.ensures.json.tokens
          ∙ append_assoc before (tokens_of (pair_json a)) (tokens_of_all (map pair_json left))
          ∙ ap (λ (xs : List OpId). before ++ tokens_of_all (map pair_json xs)) (sym next)
          ∙ c.loop-id.invariant.json;
      before = c.in_ok-put_pair.ensures.json.before ∙ c.loop-id.invariant.before;
      typed = λ rest. c.loop-id.invariant.typed (subst AreReplicaNumbers (sym next) (c.in_ok-put_pair.ensures.typed, rest));
    }

pub returns-clause-json : goal.returns-clause-json
returns-clause-json c =
    let ended : drop c.loop-id.id-index c.args.ids.now ≡ [] = drop_all c.loop-id.id-index c.args.ids.now c.loop-id-test.false in
    on_ok_weaker c.end_array.result (λ e. record {
      tokens =
          e ∙ ap (λ (xs : List OpId). c.loop-id.out.tokens ++ tokens_of_all (map pair_json xs)) (sym ended)
          ∙ c.loop-id.invariant.json;
      before = c.end_array.ensures.room.0 ∙ c.loop-id.invariant.before;
    }) c.end_array.ensures.ok

pub returns-clause-typed : goal.returns-clause-typed
returns-clause-typed c =
    let ended : drop c.loop-id.id-index c.args.ids.now ≡ [] = drop_all c.loop-id.id-index c.args.ids.now c.loop-id-test.false in
    on_ok_weaker c.end_array.result (λ _. c.loop-id.invariant.typed (subst AreReplicaNumbers (sym ended) tt)) c.end_array.ensures.ok
