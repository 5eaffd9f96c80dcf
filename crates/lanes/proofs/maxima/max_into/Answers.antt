use Rattle.std.proofs.Common.{ap, ◌∙◌, arith}
use Rattle.lanes.proofs.Chunks.{block_is}
use Rattle.lanes.proofs.Raised.{raised, raised_block, raised_next, raised_all}
use Rattle.lanes.proofs.maxima.max_into.Goals as goal

pub loop-index-preserved : goal.loop-index-preserved
loop-index-preserved c =
    let b = c.args.b.now in
    let l = c.loop-index in
    raised_block l.index c.args.a.now b l.a _ _ c.requires (omega (arith, c.as_chunks.ensures.front_len)) l.invariant
    (block_is b _ l.index c.as_chunks.ensures.front (omega (arith, c.as_chunks.ensures.front_len))) c.raise_block.ensures

pub loop-index-2-init : goal.loop-index-2-init
loop-index-2-init c = c.loop-index.invariant ∙ ap (λ m. raised m c.args.a.now c.args.b.now) (omega arith)

pub loop-index-2-preserved : goal.loop-index-2-preserved
loop-index-2-preserved c =
    let l = c.loop-index-2 in
    raised_next l.index c.args.a.now c.args.b.now l.a _ c.requires (omega arith) l.invariant c.max.ensures

pub returns : goal.returns
returns c =
    let l = c.loop-index-2 in
    l.invariant ∙ raised_all l.index c.args.a.now c.args.b.now (omega (arith, c.as_chunks.ensures.front_len))
    (omega (arith, c.as_chunks.ensures.front_len))
