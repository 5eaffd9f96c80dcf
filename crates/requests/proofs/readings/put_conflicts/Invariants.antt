-- What was written and what is left are all.
use Rattle.std.proofs.Common.{◌≡◌, ◌++◌, ◌∷◌, drop, map}
use Rattle.json.specs.Token.{begin_array}
use Rattle.wire.specs.Writing.{tokens_of_all}
use Rattle.document.specs.cursor.Steps.{tag_of}
use Rattle.requests.specs.Readings.{conflict_json}
use Rattle.requests.proofs.readings.put_conflicts.Given as goal

abbrev pub invariant-loop-id : goal.invariant-loop-id
invariant-loop-id l = record {
  tokens : l.out.tokens ++ tokens_of_all (map (λ p. conflict_json (p.0, tag_of p.1)) (drop l.id-index l.pairs))
      ≡ l.fn.out.tokens ++ begin_array ∷ tokens_of_all (map (λ p. conflict_json (p.0, tag_of p.1)) l.pairs);
  before : l.out.before ≡ l.fn.out.before;
}
