use Rattle.semantics.proofs.TruePeerAnswers.{refused_truly, kept_as_new}
use Rattle.semantics.proofs.peer_answers.deliveries_are_answered_truly.Goals as goal

pub returns-clause-refused : goal.returns-clause-refused
returns-clause-refused c = refused_truly

pub returns-clause-kept : goal.returns-clause-kept
returns-clause-kept c = kept_as_new
