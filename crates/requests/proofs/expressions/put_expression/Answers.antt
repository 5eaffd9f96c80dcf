use Rattle.std.proofs.Common.{◌≡◌, ◌+◌, ◌++◌, ◌∷◌, [], ℕ, List, map, drop, drop-cons, sym, ap, ◌∙◌, append_assoc, add-one, subst}
use Rattle.std.proofs.lemmas.List.{drop_all}
use Rattle.std.proofs.lemmas.Result.{on_ok_weaker}
use Rattle.json.specs.Token.{Token, begin_array}
use Rattle.semantics.specs.Questions.{Step as TheStep}
use Rattle.document.specs.cursor.declared.expression.Step.{Step}
use Rattle.document.specs.cursor.Steps.{step_of}
use Rattle.wire.specs.Writing.{tokens_of, tokens_of_all}
use Rattle.requests.specs.Written.{AreTypedSteps, path_step_json}
use Rattle.requests.proofs.expressions.put_expression.Goals as goal

-- one more step was written, and the others are left
pub loop-step-preserved : goal.loop-step-preserved
loop-step-preserved c =
    let steps : List Step = c.steps-step-items.result.now in
    let n : ℕ = c.loop-step.step-index in
    let s : Step = c.step-item.result in
    let left : List Step = drop (n + 1) steps in
    let next : drop n steps ≡ s ∷ left = drop-cons steps n s c.loop-step-test.true
    ∙ (λ i. sym c.step-item.is i ∷ drop (sym (add-one n) i) steps) in
    let before : List Token = c.loop-step.out.tokens in
    record {
      json =
          ap (λ (ts : List Token). ts ++ tokens_of_all (map path_step_json (map step_of left))) c.in_ok-put_step.ensures.json.tokens
          ∙ append_assoc before (tokens_of (path_step_json (step_of s))) (tokens_of_all (map path_step_json (map step_of left)))
          ∙ ap (λ (xs : List Step). before ++ tokens_of_all (map path_step_json (map step_of xs))) (sym next)
          ∙ c.loop-step.invariant.json;
      before = c.in_ok-put_step.ensures.json.before ∙ c.loop-step.invariant.before;
      typed = λ rest. c.loop-step.invariant.typed
          (subst (λ (xs : List Step). AreTypedSteps (map step_of xs)) (sym next) (c.in_ok-put_step.ensures.typed, rest));
    }

pub returns-clause-json : goal.returns-clause-json
returns-clause-json c =
    let steps : List Step = c.steps-step-items.result.now in
    let ended : drop c.loop-step.step-index steps ≡ [] = drop_all c.loop-step.step-index steps c.loop-step-test.false in
    on_ok_weaker c.end_array.result (λ e. record {
      tokens =
          e ∙ ap (λ (xs : List Step). c.loop-step.out.tokens ++ tokens_of_all (map path_step_json (map step_of xs))) (sym ended)
          ∙ c.loop-step.invariant.json
          ∙ ap
          (λ (xs : List TheStep). c.args.out.now.tokens
          ++ begin_array ∷ tokens_of_all (map path_step_json xs)) c.steps-step-items.ensures;
      before = c.end_array.ensures.room.0 ∙ c.loop-step.invariant.before;
    }) c.end_array.ensures.ok

pub returns-clause-typed : goal.returns-clause-typed
returns-clause-typed c =
    let steps : List Step = c.steps-step-items.result.now in
    let ended : drop c.loop-step.step-index steps ≡ [] = drop_all c.loop-step.step-index steps c.loop-step-test.false in
    on_ok_weaker c.end_array.result
    (λ _. subst AreTypedSteps c.steps-step-items.ensures
    (c.loop-step.invariant.typed (subst (λ (xs : List Step). AreTypedSteps (map step_of xs)) (sym ended) tt)))
    c.end_array.ensures.ok
