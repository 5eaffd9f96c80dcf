use Rattle.std.proofs.Common.{◌≡◌, ◌∙◌, ◌<◌, ◌≤◌, sym, refl, slice_get, Some, subst, length}
use Rattle.std.specs.List.{items_where_true}
use Rattle.std.proofs.lemmas.Option.{slice_get_read}
use Rattle.columns.proofs.Walked.{shown_in, shown_past}
use Rattle.columns.proofs.walks.nth_shown.Goals as goal

pub returns-then-left-shown : goal.returns-then-left-shown
returns-then-left-shown c =
    let runs = c.args.blocks.now in
    let k = c.loop-block.block-index in
    let r = c.block-item.result in
    let is : slice_get runs k ≡ Some r = slice_get_read runs _ k r refl c.loop-block-test.true c.block-item.is in
    let inside : c.loop-block.left < length (items_where_true r.flags r.items) = subst
    (λ n. c.loop-block.left < n) c.shown.ensures c.if-left-shown.true in
    c.nth_shown.ensures ∙ sym (shown_in runs k r is c.loop-block.left inside) ∙ sym c.loop-block.invariant

pub loop-block-preserved : goal.loop-block-preserved
loop-block-preserved c =
    let runs = c.args.blocks.now in
    let k = c.loop-block.block-index in
    let r = c.block-item.result in
    let is : slice_get runs k ≡ Some r = slice_get_read runs _ k r refl c.loop-block-test.true c.block-item.is in
    let past : length (items_where_true r.flags r.items) ≤ c.loop-block.left = subst
    (λ n. n ≤ c.loop-block.left) c.shown.ensures c.if-left-shown.false in
    rw c.shown-left.ensures (c.loop-block.invariant ∙ shown_past runs k r is c.loop-block.left past)
