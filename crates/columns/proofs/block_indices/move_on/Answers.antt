use Rattle.std.proofs.Common.{◌<◌, ◌∙◌, length, get_or, arith, sym, rules}
use Rattle.std.proofs.lemmas.Option.{get_or_from_slice_get}
use Rattle.columns.proofs.IndexedBlocks.{moved_all, moved_else, moved_none, moved_then, read_at}
use Rattle.columns.proofs.block_indices.move_on.Goals as goal
use Rattle.columns.proofs.block_indices.move_on.Goals.{then-indices-number, else-indices-number}

pub loop-number-init : goal.loop-number-init
loop-number-init c = moved_none c.args.indices.now c.args.index

pub overflow_add-indices : goal.overflow_add-indices
overflow_add-indices c =
    let inv = c.loop-number.invariant in
    let n = c.loop-number.number in
    let now = c.loop-number.indices in
    let inside : n < length now = let long = inv.long in let test = c.loop-number-test.true in omega (arith, long, test) in
    let was = get_or_from_slice_get c.args.indices.now n (get_or now n 0) 0 (sym (inv.rest n (omega arith)) ∙ read_at now n inside) in
    let small = c.requires n 0 c.loop-number-test.true in
    let low : get_or now n 0 < length c.args.indices.now = omega (arith, was, small) in
    search rules

pub loop-number-preserved : goal.loop-number-preserved
loop-number-preserved c =
    let inv = c.loop-number.invariant in
    let n = c.loop-number.number in
    let now = c.loop-number.indices in
    let inside : n < length now = let long = inv.long in let test = c.loop-number-test.true in omega (arith, long, test) in
    elim c.if-indices-number.branch [
      | then-indices-number w ↦
          rw w.indices-is
          (moved_then c.args.indices.now c.args.index n now inv (get_or now n 0) (read_at now n inside) w.if-indices-number.true)
      | else-indices-number w ↦
          rw w.indices-is
          (moved_else c.args.indices.now c.args.index n now inv (get_or now n 0) (read_at now n inside) w.if-indices-number.false)
    ]

pub returns : goal.returns
returns c = moved_all c.args.indices.now c.args.index c.loop-number.number c.loop-number.indices c.loop-number.invariant
    c.loop-number-test.false
