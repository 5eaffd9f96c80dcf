use Rattle.std.proofs.Common.{◌≡◌, ◌++◌, drop, map}
use Rattle.oplog.specs.operation.Ops.{entry_of}
use Rattle.document.proofs.document.Document.entries_from.Given as goal

abbrev pub invariant-loop-entry : goal.invariant-loop-entry
invariant-loop-entry l = map entry_of l.shared.items ++ map entry_of (drop l.entry-index l.entries) ≡ map entry_of l.entries
