use Rattle.std.proofs.Common.{◌++◌, ◌∷◌, [], ◌+◌, ◌∙◌, sym, ap, drop, append_assoc}
use Rattle.std.specs.List.{items_where_true}
use Rattle.semantics.specs.Ids.{id_at}
use Rattle.columns.proofs.Flags.{hidden_here, shown_here}
use Rattle.columns.proofs.block.push_shown_among.Goals as goal
use Rattle.columns.proofs.block.push_shown_among.Goals.{else-flags-at, then-flags-at+in_ok-push}

pub loop-at-preserved : goal.loop-at-preserved
loop-at-preserved c =
    let bs = c.args.flags.now in
    let xs = c.args.ids.now in
    let i = c.loop-at.at in
    let rest = items_where_true (drop (i + 1) bs) (drop (i + 1) xs) in
    elim c.if-flags-at.branch [
      | then-flags-at+in_ok-push w ↦
          let x = w.index-ids-at.result in
          let here = shown_here bs xs i x c.requires c.loop-at-test.true w.if-flags-at.true ∙ ap (λ y. y ∷ rest) (sym w.index-ids-at.is) in
          rw w.items-is
          (ap (λ ys. ys ++ rest) w.in_ok-push.ensures.items ∙ append_assoc c.loop-at.items.items (x ∷ []) rest
          ∙ ap (λ zs. c.loop-at.items.items ++ zs) (sym here) ∙ c.loop-at.invariant)
      | else-flags-at w ↦
          rw w.items-is
          (ap (λ zs. c.loop-at.items.items ++ zs)
          (sym (hidden_here bs xs i (id_at 0 0) c.requires c.loop-at-test.true w.if-flags-at.false))
          ∙ c.loop-at.invariant)
    ]
