use Rattle.followers.proofs.fan_out.let_abandoned_go.Goals as goal

pub loop-index-preserved : goal.loop-index-preserved
loop-index-preserved c G fed = c.let_go_at.ensures G (c.loop-index.invariant G fed)
