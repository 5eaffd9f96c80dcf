-- What went before, and the id among what is left, is the same.
use Rattle.std.proofs.Common.{◌≡◌, ◌-◌, ◌++◌, ◌∷◌, IsTrue, List, length, drop}
use Rattle.std.specs.FinMap.Entries.{below_all}
use Rattle.semantics.specs.Ids.{OpId, id_cmp}
use Rattle.cursor.specs.declared.tag.Tag.{Tag}
use Rattle.columns.specs.ReplicaColumns.{put_each}
use Rattle.columns.proofs.replica_columns.push_smaller.Given as goal

abbrev pub invariant-loop-next : goal.invariant-loop-next
invariant-loop-next l = (v : Tag) (es : List (OpId × Tag)) → IsTrue (below_all id_cmp l.id es)
    → l.all.items ++ put_each ((l.id, v) ∷ es) (drop l.next l.entries)
    ≡ l.initial.all.items ++ put_each ((l.id, v) ∷ es) (drop l.from l.entries)

abbrev pub decreases-loop-next : goal.decreases-loop-next
decreases-loop-next l = length l.entries - l.next
