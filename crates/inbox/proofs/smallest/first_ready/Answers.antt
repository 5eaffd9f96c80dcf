use Rattle.std.proofs.Common.{sym, ◌∙◌}
use Rattle.semantics.specs.Entries.{applied}
use Rattle.inbox.proofs.FirstReady.{next_is_not, next_is_ready}
use Rattle.inbox.proofs.smallest.first_ready.Goals as goal

pub returns-then-is_ready_at-clause-first : goal.returns-then-is_ready_at-clause-first
returns-then-is_ready_at-clause-first c =
    sym
    (next_is_ready (applied c.args.document.now.entries) c.args.ops.now c.args.ready.now.entries
    c.loop-position.position c.at-id.result c.at-id.ensures (sym c.is_ready_at.ensures ∙ c.if-is_ready_at.true))
    ∙ c.loop-position.invariant.left

pub loop-position-preserved : goal.loop-position-preserved
loop-position-preserved c = record {
  left = sym
      (next_is_not (applied c.args.document.now.entries) c.args.ops.now c.args.ready.now.entries
      c.loop-position.position c.at-id.result c.at-id.ensures (sym c.is_ready_at.ensures ∙ c.if-is_ready_at.false))
      ∙ c.loop-position.invariant.left;
}
