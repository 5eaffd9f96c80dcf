use Rattle.semantics.proofs.RecordedHistories.{same_operations}
use Rattle.semantics.proofs.lives.records_determine_operations.Goals as goal

pub returns : goal.returns
returns c = same_operations
