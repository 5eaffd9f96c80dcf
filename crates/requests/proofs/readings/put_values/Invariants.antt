-- What was written and what is left are all.
use Rattle.std.proofs.Common.{◌≡◌, ◌++◌, ◌∷◌, drop, map}
use Rattle.json.specs.Token.{begin_array}
use Rattle.wire.specs.Writing.{tokens_of_all}
use Rattle.document.specs.value.Values.{scalar_of}
use Rattle.requests.specs.Readings.{row_json}
use Rattle.requests.proofs.readings.put_values.Given as goal

abbrev pub invariant-loop-id : goal.invariant-loop-id
invariant-loop-id l = record {
  tokens : l.out.tokens ++ tokens_of_all (map (λ p. row_json (p.0, scalar_of p.1)) (drop l.id-index l.values))
      ≡ l.fn.out.tokens ++ begin_array ∷ tokens_of_all (map (λ p. row_json (p.0, scalar_of p.1)) l.values);
  before : l.out.before ≡ l.fn.out.before;
}
