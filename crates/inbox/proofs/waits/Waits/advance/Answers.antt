use Rattle.std.proofs.Common.{refl, ◌∙◌}
use Rattle.inbox.proofs.waits.Waits.advance.Goals as goal

pub loop-position-init : goal.loop-position-init
loop-position-init c = record { kept = λ es h. h; same = λ k. refl }

pub advance_at-requires-clause-there : goal.advance_at-requires-clause-there
advance_at-requires-clause-there c = (c.requires.there.0, c.loop-position.invariant.kept c.requires.there.0 c.requires.there.1)

pub returns-then-not-advance_at-clause-kept : goal.returns-then-not-advance_at-clause-kept
returns-then-not-advance_at-clause-kept c es h = c.advance_at.ensures.kept es (c.loop-position.invariant.kept es h)

pub loop-position-preserved : goal.loop-position-preserved
loop-position-preserved c = record {
  kept = λ es h. c.advance_at.ensures.kept es (c.loop-position.invariant.kept es h);
  same = λ k. c.advance_at.ensures.same k ∙ c.loop-position.invariant.same k;
}
