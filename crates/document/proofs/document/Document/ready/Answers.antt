use Rattle.std.proofs.Common.{◌≡◌, nat_le, List, [], ◌∷◌, ◌&&◌, refl, ap, ◌∙◌}
use Rattle.std.specs.List.{list_all}
use Rattle.semantics.specs.Ids.{OpId}
use Rattle.semantics.specs.Operations.{Operation}
use Rattle.semantics.specs.Vectors.{Vector, is_at_most}
use Rattle.semantics.specs.NamedIds.{greatest_counter, vector_of}
use Rattle.semantics.specs.Entries.{applied}
use Rattle.semantics.proofs.AppliedVectors.{at-vector_of}
use Rattle.document.proofs.document.Document.ready.Goals as goal

-- a vector is at most that of all that was applied, where each counter is at most the greatest of its replica
at_most_all : (H : List Operation) (v : Vector)
    → is_at_most v (vector_of H) ≡ list_all (λ (a : OpId). nat_le a.counter (greatest_counter H a.replica)) v
at_most_all H [] = refl
at_most_all H (a ∷ v) = λ i. nat_le a.counter (at-vector_of H a.replica i) && at_most_all H v i

pub returns : goal.returns
returns c =
    let d = c.self.inside in
    let v : Vector = c.args.op.now.deps in
    rw (← c.self.view_is)
    (c.is_at_most.ensures ∙ ap (is_at_most v) (c.ids.ensures.ids ∙ c.self.invariant.consistent.vector)
    ∙ at_most_all (applied d.log.entries) v)
