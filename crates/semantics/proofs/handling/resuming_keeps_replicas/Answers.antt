use Rattle.semantics.proofs.HandledBatches.{resumed}
use Rattle.semantics.proofs.handling.resuming_keeps_replicas.Goals as goal

pub returns : goal.returns
returns c = resumed
