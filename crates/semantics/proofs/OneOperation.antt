-- An id has one operation in a world, and one vector.
use Rattle.std.proofs.Common.{◌≡◌, inl, inr, ℕ, ◌≤◌, true, List, sym, ap, ◌∙◌, arith, le_antisymm}
use Rattle.std.proofs.lemmas.Bool.{and_parts, cases_eq}
use Rattle.semantics.specs.Ids.{OpId, id_at}
use Rattle.semantics.specs.Operations.{Operation}
use Rattle.semantics.specs.LegalHistory.{has_id, IsAmong}
use Rattle.semantics.specs.Vectors.{at, covers}
use Rattle.semantics.specs.NamedIds.{names}
use Rattle.semantics.specs.Stamped.{Stamped, operations_of, IsLegalStamped, Means}
use Rattle.semantics.specs.OneWorld.{AreOfOneWorld}
use Rattle.semantics.proofs.LegalFacts.{same_operation}
use Rattle.semantics.proofs.VectorCounters.{covers-at}
use Rattle.semantics.proofs.NamedOperations.{meaning_of}
use Rattle.semantics.proofs.NamedCounters.{named_from}

vector_within : (G F : List Operation) (x y : Stamped) (o w : Operation) → Means G x o → Means F y w → o ≡ w → (p : ℕ)
    → at x.vector p ≤ at y.vector p
vector_within G F x y o w m n e p =
    elim (cases_eq (at x.vector p) 0) [
      | inl z ↦ omega arith
      | inr k ↦
          (let a : OpId = id_at (at x.vector p) p in
          let d : o.deps a ≡ true = m.deps a ∙ named_from G x.vector a (m.attained p k) (omega arith) in
          let h : names F y.vector a ≡ true = sym (n.deps a) ∙ ap (λ (z : Operation). z.deps a) (sym e) ∙ d in
          covers-at y.vector a (and_parts (has_id F a) (covers y.vector a) h).1)
    ]

pub one_stamped : (H F : List Stamped) → IsLegalStamped H → IsLegalStamped F → AreOfOneWorld (operations_of H) (operations_of F)
    → (x y : Stamped) → IsAmong x H → IsAmong y F → x.id ≡ y.id
    → ((p : ℕ) → at x.vector p ≡ at y.vector p) × (x.place ≡ y.place) × (x.mutation ≡ y.mutation)
one_stamped H F lh lf w x y mx my e =
    let o = meaning_of H lh x mx in
    let q = meaning_of F lf y my in
    let same : o.0
    ≡ q.0 = same_operation w.all w.legal o.0 q.0 (w.first o.0 o.1.among) (w.second q.0 q.1.among) (o.1.id ∙ e ∙ sym q.1.id) in (
      (λ p. le_antisymm (vector_within (operations_of H) (operations_of F) x y o.0 q.0 o.1 q.1 same p)
          (vector_within (operations_of F) (operations_of H) y x q.0 o.0 q.1 o.1 (sym same) p)),
      sym o.1.place ∙ ap (λ (z : Operation). z.place) same ∙ q.1.place,
      sym o.1.mutation ∙ ap (λ (z : Operation). z.mutation) same ∙ q.1.mutation,
    )
