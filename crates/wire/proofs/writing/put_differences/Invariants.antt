-- The pairs so far and those of what is left are all.
use Rattle.std.proofs.Common.{◌≡◌, ◌++◌, ◌∷◌, map}
use Rattle.json.specs.Token.{begin_array}
use Rattle.wire.specs.Deltas.{delta}
use Rattle.wire.specs.Sent.{AreReplicaNumbers}
use Rattle.wire.specs.Vectors.{pair_json}
use Rattle.wire.specs.Writing.{tokens_of_all}
use Rattle.wire.proofs.writing.put_differences.Given as goal

abbrev pub invariant-loop-id : goal.invariant-loop-id
invariant-loop-id l = record {
  json : l.out.tokens ++ tokens_of_all (map pair_json l.id-iterator)
      ≡ l.fn.out.tokens ++ begin_array ∷ tokens_of_all (map pair_json (delta l.base l.ids));
  before : l.out.before ≡ l.fn.out.before;
  typed : AreReplicaNumbers l.id-iterator → AreReplicaNumbers (delta l.base l.ids);
}
