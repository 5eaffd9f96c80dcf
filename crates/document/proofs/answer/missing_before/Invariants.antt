use Rattle.std.proofs.Common.{◌≡◌, ◌++◌, drop, map}
use Rattle.std.specs.List.{All}
use Rattle.ids.specs.Vectors.{IsNamed}
use Rattle.oplog.specs.operation.declared.op.Op.{Op}
use Rattle.oplog.specs.operation.Ops.{stamped_of}
use Rattle.document.proofs.MissingBefore.{before}
use Rattle.document.proofs.MissingOps.{found}
use Rattle.document.proofs.answer.missing_before.Given as goal

abbrev pub invariant-loop-missing : goal.invariant-loop-missing
invariant-loop-missing l = record {
  found : map stamped_of l.ops.items ++ found l.log.entries (before l.position (drop l.missing-index l.missing-items))
      ≡ found l.log.entries (before l.position l.missing-items);
  named : All (λ (o : Op). IsNamed o.deps) l.ops.items;
}
