use Rattle.std.proofs.Common.{◌≡◌, drop}
use Rattle.semantics.specs.Entries.{applied}
use Rattle.inbox.specs.Awaiting.{first_of}
use Rattle.inbox.proofs.smallest.first_ready.Given as goal

abbrev pub invariant-loop-position : goal.invariant-loop-position
invariant-loop-position l = record {
  left : first_of (applied l.document.entries) l.ops (drop l.position l.ready.entries)
      ≡ first_of (applied l.document.entries) l.ops l.ready.entries;
}
