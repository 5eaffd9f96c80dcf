use Rattle.semantics.proofs.HandledAnswers.{handled}
use Rattle.semantics.proofs.handling.handling_keeps_replicas.Goals as goal

pub returns : goal.returns
returns c = handled
