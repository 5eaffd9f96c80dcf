use Rattle.std.proofs.Common.{◌+◌, ◌∙◌, ap, drop, get_or, slice_get}
use Rattle.std.specs.List.{items_where_true}
use Rattle.semantics.specs.Ids.{id_at}
use Rattle.columns.proofs.Flags.{get_next, hidden_here, shown_here}
use Rattle.columns.proofs.block.nth_shown_among.Goals as goal
use Rattle.columns.proofs.block.nth_shown_among.Goals.{else-flags-at, then-flags-at+else-left-eq0}

pub loop-at-preserved : goal.loop-at-preserved
loop-at-preserved c =
    let bs = c.args.flags.now in
    let xs = c.args.ids.now in
    let i = c.loop-at.at in
    elim c.if-flags-at.branch [
      | else-flags-at w ↦
          rw w.left-is
          (c.loop-at.invariant ∙ ap (λ zs. slice_get zs c.loop-at.left)
          (hidden_here bs xs i (id_at 0 0) c.requires c.loop-at-test.true w.if-flags-at.false))
      | then-flags-at+else-left-eq0 w ↦
          rw w.left-is
          (c.loop-at.invariant ∙ ap (λ zs. slice_get zs c.loop-at.left)
          (shown_here bs xs i (id_at 0 0) c.requires c.loop-at-test.true w.if-flags-at.true)
          ∙ get_next (get_or xs i (id_at 0 0)) (items_where_true (drop (i + 1) bs) (drop (i + 1) xs)) c.loop-at.left w.if-left-eq0.false)
    ]
