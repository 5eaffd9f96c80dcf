use Rattle.semantics.proofs.KeptMessages.{messages_stay}
use Rattle.semantics.proofs.world_exchange.messages_stay.Goals as goal

pub returns : goal.returns
returns c = messages_stay
