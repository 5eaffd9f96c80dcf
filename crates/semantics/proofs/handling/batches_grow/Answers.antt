use Rattle.semantics.proofs.HandledBatches.{no_batch, one_more}
use Rattle.semantics.proofs.handling.batches_grow.Goals as goal

pub returns-clause-none : goal.returns-clause-none
returns-clause-none c = no_batch

pub returns-clause-one_more : goal.returns-clause-one_more
returns-clause-one_more c = one_more
