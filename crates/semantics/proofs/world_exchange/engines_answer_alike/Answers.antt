use Rattle.semantics.proofs.EnginesAgree.{engines_agree}
use Rattle.semantics.proofs.world_exchange.engines_answer_alike.Goals as goal

pub returns : goal.returns
returns c = engines_agree
