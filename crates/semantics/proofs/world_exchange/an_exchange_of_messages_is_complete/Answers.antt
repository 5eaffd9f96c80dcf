use Rattle.semantics.proofs.WholeExchanges.{messages_complete}
use Rattle.semantics.proofs.world_exchange.an_exchange_of_messages_is_complete.Goals as goal

pub returns : goal.returns
returns c = messages_complete
