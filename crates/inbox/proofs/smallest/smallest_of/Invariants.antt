use Rattle.std.proofs.Common.{◌≡◌, ◌≤◌, ◌⊎◌, true}
use Rattle.std.specs.BTreeSet.{contains}
use Rattle.std.specs.List.Sorted.{IsStrictlySortedBy}
use Rattle.semantics.specs.Ids.{OpId}
use Rattle.semantics.specs.Entries.{applied}
use Rattle.semantics.specs.LegalHistory.{IsAmong}
use Rattle.inbox.specs.declared.awaited.Awaited.{Awaited}
use Rattle.inbox.specs.Awaiting.{await_cmp, IsMet, IsReadyAt, IsSettled}
use Rattle.inbox.proofs.smallest.smallest_of.Given as goal

abbrev pub invariant-loop-awaited : goal.invariant-loop-awaited
invariant-loop-awaited l = record {
  can_next : (goal.iterator-loop-awaited).can_next l.awaited-iterator;
  is_finite : (goal.iterator-loop-awaited).is_finite l.awaited-iterator;
  from : (q : Awaited) → IsAmong q l.awaited-iterator → l.id.replica ≤ q.replica;
  rising : IsStrictlySortedBy await_cmp l.awaited-iterator;
  ready : IsReadyAt (applied l.document.entries) l.ops l.least;
  met : (a : OpId) → IsMet l.fn.before a → IsMet l.least a;
  settled : (q : Awaited) → contains await_cmp l.waits.awaits q ≡ true → l.id.replica ≤ q.replica
      → IsAmong q l.awaited-iterator ⊎ IsSettled (applied l.document.entries) l.ops l.least q.key;
}
