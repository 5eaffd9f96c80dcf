use Rattle.std.proofs.Common.{◌≡◌, ◌<◌, ℕ, Some, slice_get, true}
use Rattle.semantics.specs.Ids.{OpId, id_cmp}
use Rattle.semantics.specs.Entries.{applied}
use Rattle.semantics.specs.Faults.{is_ready}
use Rattle.std.specs.BTreeSet.{contains}
use Rattle.std.specs.FinMap.{find}
use Rattle.slab.specs.Slab.{get}
use Rattle.document.specs.operation.declared.op.Op.{Op}
use Rattle.document.specs.operation.Ops.{stamped_of}
use Rattle.inbox.specs.declared.awaited.Awaited.{Awaited}
use Rattle.inbox.specs.Awaiting.{await_cmp, IsMet, IsPassed, IsReadyAt}
use Rattle.inbox.proofs.smallest.smallest.Given as goal

abbrev pub invariant-loop-position : goal.invariant-loop-position
invariant-loop-position l = record {
  ready : IsReadyAt (applied l.document.entries) l.ops l.least;
  may : (k : ℕ) (o : Op) → get l.ops k ≡ Some o → find id_cmp o.id l.waits.ready.entries ≡ Some k
      → is_ready (applied l.document.entries) (stamped_of o) ≡ true → IsMet l.least o.id;
  passed : (q : Awaited) (j : ℕ) (b : OpId) → contains await_cmp l.waits.awaits q ≡ true → j < l.position → slice_get l.applied j ≡ Some b
      → b.replica ≡ q.replica → IsPassed (applied l.document.entries) l.ops l.least q;
}
