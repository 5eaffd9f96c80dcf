use Rattle.std.proofs.Common.{◌∙◌, arith}
use Rattle.lanes.proofs.Raised.{raised_next, raised_all}
use Rattle.measures.proofs.kernels.plain.max_into.Goals as goal

pub loop-index-preserved : goal.loop-index-preserved
loop-index-preserved c =
    let l = c.loop-index in
    raised_next l.index c.args.a.now c.args.b.now l.a _ c.requires (omega arith) l.invariant c.max.ensures

pub returns : goal.returns
returns c = c.loop-index.invariant ∙ raised_all c.loop-index.index c.args.a.now c.args.b.now (omega arith) (omega arith)
