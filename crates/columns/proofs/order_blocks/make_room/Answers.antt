use Rattle.std.proofs.Common.{◌≡◌, ◌≤◌, ◌<◌, sym, refl, subst, length, slice_get, Some, rules}
use Rattle.std.proofs.lemmas.Option.{slice_get_read}
use Rattle.columns.proofs.Runs.{items_here}
use Rattle.columns.proofs.order_blocks.make_room.Goals as goal

pub returns-then-len-lt-MOST-clause-same : goal.returns-then-len-lt-MOST-clause-same
returns-then-len-lt-MOST-clause-same c = c.reserve_in.ensures.same c.args.homes.now.entries c.requires.blocks

pub cut-requires-clause-full : goal.cut-requires-clause-full
cut-requires-clause-full c =
    let runs = c.args.blocks.now.items in
    let k = c.args.last.block in
    let r = c.index.result.now in
    let inside : k < length runs = search rules in
    let is : slice_get runs k ≡ Some r = slice_get_read runs _ k r refl inside c.index.ensures in
    subst (λ xs. 512 ≤ length xs) (sym (items_here runs k r is)) (subst (λ n. 512 ≤ n) c.len.ensures.items c.if-len-lt-MOST.false)
