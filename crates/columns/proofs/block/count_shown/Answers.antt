use Rattle.std.proofs.Common.{◌≡◌, ◌+◌, ◌∙◌, suc, sym, ap, length, drop, arith, rules}
use Rattle.std.specs.List.{items_where_true}
use Rattle.semantics.specs.Ids.{id_at}
use Rattle.columns.proofs.Flags.{hidden_here, shown_here, shown_most}
use Rattle.columns.proofs.block.count_shown.Goals as goal
use Rattle.columns.proofs.block.count_shown.Goals.{then-flags-at, else-flags-at}

pub overflow_add-shown : goal.overflow_add-shown
overflow_add-shown c =
    let bs = c.args.flags.now in
    let xs = c.args.ids.now in
    let i = c.loop-at.at in
    let sum : c.loop-at.shown + suc (length (items_where_true (drop (i + 1) bs) (drop (i + 1) xs))) ≡ length (items_where_true bs xs) =
    ap (λ zs. c.loop-at.shown + length zs) (sym (shown_here bs xs i (id_at 0 0) c.requires c.loop-at-test.true c.if-flags-at.true))
    ∙ c.loop-at.invariant in
    let most = shown_most bs xs in
    search rules

pub loop-at-preserved : goal.loop-at-preserved
loop-at-preserved c =
    let bs = c.args.flags.now in
    let xs = c.args.ids.now in
    let i = c.loop-at.at in
    elim c.if-flags-at.branch [
      | then-flags-at w ↦
          let sum : c.loop-at.shown + suc (length (items_where_true (drop (i + 1) bs) (drop (i + 1) xs)))
          ≡ length (items_where_true bs xs) =
          ap (λ zs. c.loop-at.shown + length zs) (sym (shown_here bs xs i (id_at 0 0) c.requires c.loop-at-test.true w.if-flags-at.true))
          ∙ c.loop-at.invariant in
          rw w.shown-is (omega (arith, sum))
      | else-flags-at w ↦
          rw w.shown-is
          (ap (λ zs. c.loop-at.shown + length zs)
          (sym (hidden_here bs xs i (id_at 0 0) c.requires c.loop-at-test.true w.if-flags-at.false))
          ∙ c.loop-at.invariant)
    ]
