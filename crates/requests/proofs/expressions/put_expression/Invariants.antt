-- The steps so far and those of what is left are all.
use Rattle.std.proofs.Common.{◌≡◌, ◌++◌, ◌∷◌, drop, map}
use Rattle.json.specs.Token.{begin_array}
use Rattle.document.specs.cursor.Steps.{step_of}
use Rattle.wire.specs.Writing.{tokens_of_all}
use Rattle.requests.specs.Written.{AreTypedSteps, path_step_json}
use Rattle.requests.proofs.expressions.put_expression.Given as goal

abbrev pub invariant-loop-step : goal.invariant-loop-step
invariant-loop-step l = record {
  json : l.out.tokens ++ tokens_of_all (map path_step_json (map step_of (drop l.step-index l.step-items)))
      ≡ l.fn.out.tokens ++ begin_array ∷ tokens_of_all (map path_step_json (map step_of l.step-items));
  before : l.out.before ≡ l.fn.out.before;
  typed : AreTypedSteps (map step_of (drop l.step-index l.step-items)) → AreTypedSteps (map step_of l.step-items);
}
