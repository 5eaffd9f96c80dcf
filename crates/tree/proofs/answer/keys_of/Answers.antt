use Rattle.std.proofs.Common.{◌≡◌, ◌≤◌, ◌∙◌, Bool, Some, filter, length, map, subst, sym, arith}
use Rattle.std.proofs.lemmas.Result.{IfOk-weaker}
use Rattle.std.proofs.lemmas.List.{take_all}
use Rattle.semantics.specs.Elements.{Field, Name}
use Rattle.semantics.specs.DocumentAnswer.{is_any, visible_names}
use Rattle.tree.specs.Nodes.{context, links, links_of, names_in, node_in, number}
use Rattle.tree.proofs.Answering.{few_wanted}
use Rattle.tree.proofs.answer.keys_of.Goals as goal

-- there are no more keys than fields
pub returns-in-Some : goal.returns-in-Some
returns-in-Some c =
    IfOk-weaker c.present_keys.result _ _
    (λ v first e at.
    let ns = c.args.nodes.now in
    let p : Name → Bool = λ n. is_any ((context ns).presence (Field e n)) in
    let there : number ns e ≡ Some c.in-Some.at = at ∙ c.in-Some.is in
    let few : length (filter p (map (λ x. x.0) (names_in ns (links ns c.in-Some.at).0))) ≤ c.count_fields.result =
    (let n = few_wanted ns p (links ns c.in-Some.at).0 in let all = c.count_fields.ensures in omega (arith, n, all)) in
    first e there
    ∙ take_all c.count_fields.result (visible_names (context ns) e)
    (subst (λ o. length (filter p (map (λ x. x.0) (names_in ns (links_of (node_in ns o)).0))) ≤ c.count_fields.result) (sym there) few))
    c.present_keys.ensures.first
