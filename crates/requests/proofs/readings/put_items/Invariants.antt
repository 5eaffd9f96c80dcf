-- What was written and what is left are all.
use Rattle.std.proofs.Common.{◌≡◌, ◌++◌, ◌∷◌, drop, map}
use Rattle.json.specs.Token.{begin_array}
use Rattle.wire.specs.Writing.{tokens_of_all}
use Rattle.wire.specs.Operations.{id_json}
use Rattle.requests.proofs.readings.put_items.Given as goal

abbrev pub invariant-loop-id : goal.invariant-loop-id
invariant-loop-id l = record {
  tokens : l.out.tokens ++ tokens_of_all (map id_json (drop l.id-index l.items))
      ≡ l.fn.out.tokens ++ begin_array ∷ tokens_of_all (map id_json l.items);
  before : l.out.before ≡ l.fn.out.before;
}
