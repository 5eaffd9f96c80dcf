-- What was written and what is left are all.
use Rattle.std.proofs.Common.{◌≡◌, ◌++◌, ◌∷◌, drop, map}
use Rattle.json.specs.Token.{begin_array}
use Rattle.wire.specs.Writing.{tokens_of_all}
use Rattle.serde_json.specs.Data.{string}
use Rattle.requests.proofs.readings.put_keys.Given as goal

abbrev pub invariant-loop-key : goal.invariant-loop-key
invariant-loop-key l = record {
  tokens : l.out.tokens ++ tokens_of_all (map string (drop l.key-index l.keys))
      ≡ l.fn.out.tokens ++ begin_array ∷ tokens_of_all (map string l.keys);
  before : l.out.before ≡ l.fn.out.before;
}
