use Rattle.std.proofs.Common.{◌≡◌, ◌++◌, drop, map}
use Rattle.std.specs.List.{All}
use Rattle.ids.specs.Vectors.{IsNamed}
use Rattle.oplog.specs.operation.declared.op.Op.{Op}
use Rattle.oplog.specs.operation.Ops.{stamped_of}
use Rattle.document.proofs.MissingOps.{found}
use Rattle.document.proofs.answer.missing.Given as goal

abbrev pub invariant-loop-position : goal.invariant-loop-position
invariant-loop-position l = record {
  found : map stamped_of l.ops.items ++ found l.log.entries (drop l.position-index l.position-items)
      ≡ found l.log.entries l.position-items;
  named : All (λ (o : Op). IsNamed o.deps) l.ops.items;
}
