use Rattle.std.proofs.Common.{map, take}
use Rattle.std.specs.Prelude.{IsTrue}
use Rattle.semantics.specs.Context.{Context}
use Rattle.operation.specs.cursor.Steps.{hop_of}
use Rattle.tree.specs.Trees.{items_stand}
use Rattle.tree.specs.Writes.{end_of}
use Rattle.tree.proofs.items_inserted.goes_by_fields.Given as goal

abbrev pub invariant-loop-hop : goal.invariant-loop-hop
invariant-loop-hop l = (C : Context) → IsTrue (items_stand C (end_of (take l.hop-index (map hop_of l.path))))
