use Rattle.wire.proofs.CountedReplicas.{at-with_counter}
use Rattle.wire.proofs.DeltaLaws.{changed-delta}
use Rattle.wire.proofs.deltas.vectors_are_their_differences.Goals as goal

pub returns-clause-counters : goal.returns-clause-counters
returns-clause-counters c = at-with_counter

pub returns-clause-vectors : goal.returns-clause-vectors
returns-clause-vectors c = changed-delta
