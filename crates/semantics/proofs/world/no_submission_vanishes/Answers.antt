use Rattle.semantics.proofs.AllSubmissions.{all_submitted}
use Rattle.semantics.proofs.world.no_submission_vanishes.Goals as goal

pub returns : goal.returns
returns c = all_submitted
