use Rattle.semantics.proofs.RunsAgree.{runs_agree}
use Rattle.semantics.proofs.one_world.replicas_of_a_run_answer_alike.Goals as goal

pub returns : goal.returns
returns c = runs_agree
