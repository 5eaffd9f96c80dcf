use Rattle.semantics.proofs.LastingSteps.{shown_enters}
use Rattle.semantics.proofs.expressions.what_is_shown_can_be_entered.Goals as goal

pub returns : goal.returns
returns c = shown_enters
