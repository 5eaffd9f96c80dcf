-- What was written and what is left are all.
use Rattle.std.proofs.Common.{◌≡◌, ◌++◌, ◌∷◌, drop, map}
use Rattle.json.specs.Token.{begin_array}
use Rattle.wire.specs.Writing.{tokens_of_all}
use Rattle.document.specs.operation.Ops.{stamped_of}
use Rattle.wire.specs.Operations.{operation_json}
use Rattle.requests.proofs.readings.put_ops.Given as goal

abbrev pub invariant-loop-op : goal.invariant-loop-op
invariant-loop-op l = record {
  tokens : l.out.tokens ++ tokens_of_all (map (λ o. operation_json (stamped_of o)) (drop l.op-index l.ops))
      ≡ l.fn.out.tokens ++ begin_array ∷ tokens_of_all (map (λ o. operation_json (stamped_of o)) l.ops);
  before : l.out.before ≡ l.fn.out.before;
}
