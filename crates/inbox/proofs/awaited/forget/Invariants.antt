use Rattle.std.proofs.Common.{◌≡◌, ◌<◌, ℕ, false, slice_get, Some}
use Rattle.std.specs.BTreeSet.{contains}
use Rattle.semantics.specs.Ids.{OpId}
use Rattle.inbox.specs.Awaiting.{await_cmp, awaited_by}
use Rattle.inbox.specs.declared.awaited.Awaited.{Awaited}
use Rattle.inbox.proofs.awaited.forget.Given as goal

abbrev pub invariant-loop-position : goal.invariant-loop-position
invariant-loop-position l = record {
  same : (q : Awaited) → contains await_cmp l.awaits q ≡ contains await_cmp l.fn.awaits q;
  none : (i : ℕ) (a : OpId) → i < l.position → slice_get l.op.deps i ≡ Some a
      → contains await_cmp l.fn.awaits (awaited_by a l.key) ≡ false;
}
