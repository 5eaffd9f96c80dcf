use Rattle.agreement.proofs.WholeSteps.{granted_runs, steps_alike}
use Rattle.agreement.proofs.law.a_step_is_a_step_of_a_world.Goals as goal

pub returns-clause-runs : goal.returns-clause-runs
returns-clause-runs c = granted_runs

pub returns-clause-alike : goal.returns-clause-alike
returns-clause-alike c = steps_alike
