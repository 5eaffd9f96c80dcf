use Rattle.std.proofs.Common.{◌+◌, ◌*◌, ◌<◌, length, take, drop, ap, ◌∙◌, arith}
use Rattle.std.specs.Simd.Lanes.{mask_l}
use Rattle.std.proofs.lemmas.List.{take_all}
use Rattle.lanes.specs.Kernels.{over}
use Rattle.lanes.proofs.Chunks.{block_is}
use Rattle.lanes.proofs.Bits.{length-over, word_block, word_next, bit_over}
use Rattle.lanes.proofs.mask.word_over.Goals as goal

pub loop-index-preserved : goal.loop-index-preserved
loop-index-preserved c =
    let l = c.loop-index in
    word_block l.index c.args.counters.now c.args.bounds.now _ _ l.word _ c.requires.columns
    (omega (arith, c.as_chunks.ensures.front_len)) c.requires.few
    (block_is c.args.counters.now _ l.index c.as_chunks.ensures.front (omega (arith, c.as_chunks.ensures.front_len)))
    (block_is c.args.bounds.now _ l.index c.as_chunks-2.ensures.front (omega (arith, c.as_chunks.ensures.front_len)))
    c.mask_over.ensures l.invariant

pub loop-index-2-init : goal.loop-index-2-init
loop-index-2-init c = c.loop-index.invariant ∙ ap (λ m. mask_l (take m (over c.args.counters.now c.args.bounds.now))) (omega arith)

pub loop-index-2-preserved : goal.loop-index-2-preserved
loop-index-2-preserved c =
    let counters = c.args.counters.now in
    let bounds = c.args.bounds.now in
    let l = c.loop-index-2 in
    let p = 8 * length c.as_chunks.result.0.now in
    let long = length-over counters bounds c.requires.columns in
    let within : p + l.index < length counters = omega (arith, c.as_chunks.ensures.front_len, c.as_chunks.ensures.back_len) in
    let bit = bit_over p l.index counters bounds _ _ _ c.requires.columns within
    (c.as_chunks.ensures.back ∙ ap (λ m. drop m counters) (omega (arith, c.as_chunks.ensures.front_len)))
    (c.as_chunks-2.ensures.back ∙ ap (λ m. drop m bounds) (omega (arith, c.as_chunks.ensures.front_len))) c.from.ensures in
    word_next (p + l.index) (over counters bounds) l.word _ (omega arith) (omega arith) bit l.invariant
    ∙ ap (λ m. mask_l (take m (over counters bounds))) (omega arith)

pub returns : goal.returns
returns c =
    let bits = over c.args.counters.now c.args.bounds.now in
    let long = length-over c.args.counters.now c.args.bounds.now c.requires.columns in
    c.loop-index-2.invariant ∙ ap mask_l (take_all _ bits (omega (arith, c.as_chunks.ensures.front_len, c.as_chunks.ensures.back_len)))
