-- The pairs so far and those of what is left are all.
use Rattle.std.proofs.Common.{◌≡◌, ◌++◌, ◌∷◌, drop, map}
use Rattle.json.specs.Token.{begin_array}
use Rattle.wire.specs.Sent.{AreReplicaNumbers}
use Rattle.wire.specs.Vectors.{pair_json}
use Rattle.wire.specs.Writing.{tokens_of_all}
use Rattle.wire.proofs.writing.put_vector.Given as goal

abbrev pub invariant-loop-id : goal.invariant-loop-id
invariant-loop-id l = record {
  json : l.out.tokens ++ tokens_of_all (map pair_json (drop l.id-index l.ids))
      ≡ l.fn.out.tokens ++ begin_array ∷ tokens_of_all (map pair_json l.ids);
  before : l.out.before ≡ l.fn.out.before;
  typed : AreReplicaNumbers (drop l.id-index l.ids) → AreReplicaNumbers l.ids;
}
