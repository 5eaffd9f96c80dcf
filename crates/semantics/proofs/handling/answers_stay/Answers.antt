use Rattle.semantics.proofs.LastingAnswers.{answer_stays}
use Rattle.semantics.proofs.handling.answers_stay.Goals as goal

pub returns : goal.returns
returns c = answer_stays
