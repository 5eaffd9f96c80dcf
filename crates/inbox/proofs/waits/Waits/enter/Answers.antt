use Rattle.inbox.proofs.waits.Waits.enter.Goals as goal

pub returns-in_ok-enter_ready-in-None-clause-entered : goal.returns-in_ok-enter_ready-in-None-clause-entered
returns-in_ok-enter_ready-in-None-clause-entered c = c.in_ok-enter_ready-in-None.ensures.entered c.args.applied.now
