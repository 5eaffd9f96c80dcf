use Rattle.std.proofs.Common.{◌∙◌}
use Rattle.inbox.proofs.waits.Waits.move_met.Goals as goal

pub move_on-requires-clause-there : goal.move_on-requires-clause-there
move_on-requires-clause-there c = (c.requires.there.0, c.loop.invariant.kept c.requires.there.0 c.requires.there.1)

pub returns-then-is_err-clause-kept : goal.returns-then-is_err-clause-kept
returns-then-is_err-clause-kept c es h = c.move_on.ensures.kept es (c.loop.invariant.kept es h)

pub loop-preserved : goal.loop-preserved
loop-preserved c = record {
  kept = λ es h. c.move_on.ensures.kept es (c.loop.invariant.kept es h);
  same = λ k. c.move_on.ensures.same k ∙ c.loop.invariant.same k;
}

pub returns-else-is_err-clause-kept : goal.returns-else-is_err-clause-kept
returns-else-is_err-clause-kept c es h = c.move_on.ensures.kept es (c.loop.invariant.kept es h)
