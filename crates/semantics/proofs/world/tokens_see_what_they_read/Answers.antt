use Rattle.semantics.proofs.SeenReadings.{token_asked, token_greeted, token_answered, client_polled, token_learnt}
use Rattle.semantics.proofs.world.tokens_see_what_they_read.Goals as goal

pub returns-clause-asked : goal.returns-clause-asked
returns-clause-asked c = token_asked

pub returns-clause-greeted : goal.returns-clause-greeted
returns-clause-greeted c = token_greeted

pub returns-clause-answered : goal.returns-clause-answered
returns-clause-answered c = token_answered

pub returns-clause-polled : goal.returns-clause-polled
returns-clause-polled c = client_polled

pub returns-clause-learnt : goal.returns-clause-learnt
returns-clause-learnt c = token_learnt
