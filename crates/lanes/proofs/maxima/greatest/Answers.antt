use Rattle.std.proofs.Common.{◌≡◌, ◌*◌, drop, ap, ◌∙◌, arith, refl}
use Rattle.lanes.specs.Kernels.{greatest}
use Rattle.lanes.proofs.Chunks.{block_is}
use Rattle.lanes.proofs.Raised.{greatest_more}
use Rattle.lanes.proofs.maxima.greatest.Goals as goal

pub loop-block-init : goal.loop-block-init
loop-block-init c = (refl, omega arith)

pub loop-block-preserved : goal.loop-block-preserved
loop-block-preserved c =
    let a = c.args.a.now in
    let l = c.loop-block in
    greatest_more l.block-index a l.lanes _ _ _ (omega (arith, c.as_chunks.ensures.front_len)) l.invariant.0
    (block_is a _ l.block-index c.as_chunks.ensures.front
    (omega (arith, c.as_chunks.ensures.front_len))) c.greater-lanes.ensures l.invariant.1

pub returns : goal.returns
returns c =
    let a = c.args.a.now in
    let l = c.loop-block in
    let rest : greatest c.as_chunks.result.1.now
    ≡ greatest (drop (8 * l.block-index) a) = ap greatest
    (c.as_chunks.ensures.back ∙ ap (λ m. drop m a) (omega (arith, c.as_chunks.ensures.front_len))) in
    omega (arith, rest, l.invariant.1, c.max.ensures, c.greatest_of_few.ensures, c.greatest_of_few-2.ensures)
