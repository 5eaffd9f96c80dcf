use Rattle.semantics.proofs.AppliedVectors.{at-vector_of, canonical-vector_of, legal_counters}
use Rattle.semantics.proofs.vectors.the_applied_vector_names_all.Goals as goal

pub returns-clause-names : goal.returns-clause-names
returns-clause-names c = at-vector_of

pub returns-clause-canonical : goal.returns-clause-canonical
returns-clause-canonical c = λ H legal. canonical-vector_of H (legal_counters H legal)
