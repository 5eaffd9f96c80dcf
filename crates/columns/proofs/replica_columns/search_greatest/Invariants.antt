-- What is greater than the bound is still to come.
use Rattle.std.proofs.Common.{◌≡◌, ◌<◌, IsTrue, drop}
use Rattle.semantics.specs.Ids.{OpId, id_cmp}
use Rattle.columns.specs.Rank.{has_key, keys_of}
use Rattle.columns.proofs.replica_columns.search_greatest.Given as goal

abbrev pub invariant-loop-position : goal.invariant-loop-position
invariant-loop-position l = (q : OpId) → q.replica ≡ l.replica → IsTrue (has_key id_cmp q (keys_of l.list.entries))
    → l.greatest < q.counter → IsTrue (has_key id_cmp q (keys_of (drop l.position l.list.entries)))
