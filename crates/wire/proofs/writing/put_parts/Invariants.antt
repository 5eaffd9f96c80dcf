-- The parts so far and those of the hops that are left are all; so is the last key.
use Rattle.std.proofs.Common.{◌≡◌, ◌++◌, List, drop, map}
use Rattle.operation.specs.cursor.Steps.{hop_of}
use Rattle.serde_json.specs.Data.{Data}
use Rattle.wire.specs.Operations.{last_from, parts_from, root_json}
use Rattle.wire.specs.Sent.{AreTypedKeys}
use Rattle.wire.specs.Writing.{key_before, key_of, tokens_of_all}
use Rattle.wire.proofs.writing.put_parts.Given as goal

abbrev pub invariant-loop-hop : goal.invariant-loop-hop
invariant-loop-hop l = record {
  json : (ds : List Data)
      → l.out.tokens ++ tokens_of_all (parts_from (key_before (key_of l.last)) (map hop_of (drop l.hop-index l.hops)) ++ ds)
      ≡ l.fn.out.tokens ++ tokens_of_all (parts_from root_json (map hop_of l.hops) ++ ds);
  before : l.out.before ≡ l.fn.out.before;
  last : last_from (key_before (key_of l.last)) (map hop_of (drop l.hop-index l.hops)) ≡ last_from root_json (map hop_of l.hops);
  typed : AreTypedKeys (map hop_of (drop l.hop-index l.hops)) → AreTypedKeys (map hop_of l.hops);
}
