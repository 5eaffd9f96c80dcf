use Rattle.std.proofs.Common.{◌+◌, ◌*◌, ◌<◌, ◌/◌, length, take, drop, ap, ◌∙◌, arith}
use Rattle.std.proofs.lemmas.List.{take_all}
use Rattle.lanes.specs.Kernels.{over, count_true}
use Rattle.lanes.proofs.Chunks.{block_is}
use Rattle.lanes.proofs.Bits.{length-over, count_block, count_next, count_true-take-le, bit_over}
use Rattle.lanes.proofs.mask.count_over.Goals as goal

pub overflow_add-count : goal.overflow_add-count
overflow_add-count c =
    let l = c.loop-index in
    let counters = c.args.counters.now in
    let bounds = c.args.bounds.now in
    let counted = count_block l.index counters bounds _ _ l.count _
    (block_is counters _ l.index c.as_chunks.ensures.front (omega (arith, c.as_chunks.ensures.front_len)))
    (block_is bounds _ l.index c.as_chunks-2.ensures.front (omega (arith, c.as_chunks.ensures.front_len)))
    c.mask_over.ensures l.invariant in
    omega (arith, counted, count_true-take-le (8 * (l.index + 1)) (over counters bounds), length-over counters bounds c.requires)

pub loop-index-preserved : goal.loop-index-preserved
loop-index-preserved c =
    let l = c.loop-index in
    count_block l.index c.args.counters.now c.args.bounds.now _ _ l.count _
    (block_is c.args.counters.now _ l.index c.as_chunks.ensures.front (omega (arith, c.as_chunks.ensures.front_len)))
    (block_is c.args.bounds.now _ l.index c.as_chunks-2.ensures.front (omega (arith, c.as_chunks.ensures.front_len)))
    c.mask_over.ensures l.invariant

pub loop-index-2-init : goal.loop-index-2-init
loop-index-2-init c = c.loop-index.invariant
    ∙ ap (λ m. count_true (take m (over c.args.counters.now c.args.bounds.now))) (omega (arith, c.as_chunks.ensures.front_len))

pub overflow_add-count-in-loop-index-2 : goal.overflow_add-count-in-loop-index-2
overflow_add-count-in-loop-index-2 c =
    let counters = c.args.counters.now in
    let bounds = c.args.bounds.now in
    let l = c.loop-index-2 in
    let p = 8 * (length counters / 8) in
    let long = length-over counters bounds c.requires in
    let within : p + l.index < length counters = omega (arith, c.as_chunks.ensures.front_len, c.as_chunks.ensures.back_len) in
    let bit = bit_over p l.index counters bounds _ _ _ c.requires within
    (c.as_chunks.ensures.back ∙ ap (λ m. drop m counters) (omega arith))
    (c.as_chunks-2.ensures.back ∙ ap (λ m. drop m bounds) (omega arith)) c.from-count.ensures in
    let counted = count_next (p + l.index) (over counters bounds) l.count _ (omega arith) bit l.invariant in
    omega (arith, counted, count_true-take-le (p + l.index + 1) (over counters bounds))

pub loop-index-2-preserved : goal.loop-index-2-preserved
loop-index-2-preserved c =
    let counters = c.args.counters.now in
    let bounds = c.args.bounds.now in
    let l = c.loop-index-2 in
    let p = 8 * (length counters / 8) in
    let long = length-over counters bounds c.requires in
    let within : p + l.index < length counters = omega (arith, c.as_chunks.ensures.front_len, c.as_chunks.ensures.back_len) in
    let bit = bit_over p l.index counters bounds _ _ _ c.requires within
    (c.as_chunks.ensures.back ∙ ap (λ m. drop m counters) (omega arith))
    (c.as_chunks-2.ensures.back ∙ ap (λ m. drop m bounds) (omega arith)) c.from-count.ensures in
    let counted = count_next (p + l.index) (over counters bounds) l.count _ (omega arith) bit l.invariant in
    counted ∙ ap (λ m. count_true (take m (over counters bounds))) (omega arith)

pub returns : goal.returns
returns c =
    let bits = over c.args.counters.now c.args.bounds.now in
    let long = length-over c.args.counters.now c.args.bounds.now c.requires in
    c.loop-index-2.invariant ∙ ap count_true (take_all _ bits (omega (arith, c.as_chunks.ensures.front_len, c.as_chunks.ensures.back_len)))
