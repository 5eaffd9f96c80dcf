use Rattle.std.proofs.Common.{inl, inr}
use Rattle.std.proofs.lemmas.Bool.{cases_Bool}
use Rattle.semantics.specs.LegalHistory.{has_id}
use Rattle.semantics.specs.Replica.{operations}
use Rattle.semantics.proofs.Settled.{settled}
use Rattle.semantics.proofs.one_world.a_world_settles.Goals as goal

pub returns : goal.returns
returns c = λ K r F l h e f w of there. settled K l r h e f w F of.legal of.within
    (λ s m. elim (cases_Bool (has_id (operations r) s.id)) [ inl t ↦ inl t | inr t ↦ inr (there s m t) ])
