-- The vector of all that was applied.
use Rattle.std.proofs.Common.{◌≡◌, ◌≢◌, ℕ, ◌≤◌, max, true, cond, ◌==◌, List, [], ◌∷◌, length, refl, sym, ap, ◌∙◌, inl, inr, arith}
use Rattle.semantics.specs.Operations.{Operation}
use Rattle.semantics.specs.LegalHistory.{IsAmong, IsLegal, HaveSameOperations, greatest_of}
use Rattle.semantics.specs.Vectors.{at, greatest, IsCanonical}
use Rattle.semantics.specs.NamedIds.{greatest_counter, vector_of}
use Rattle.ids.proofs.RaisedVectors.{at-raise, canonical_raise, greatest-raise}
use Rattle.semantics.proofs.LegalFacts.{greatest_cases, counter_within}
use Rattle.ids.proofs.CanonicalVectors.{same_vectors}
use Rattle.semantics.proofs.SameCollections.{greatest_same}

-- it names each replica's greatest counter
pub at-vector_of : (H : List Operation) (p : ℕ) → at (vector_of H) p ≡ greatest_counter H p
at-vector_of [] p = refl
at-vector_of (o ∷ H) p = at-raise o.id (vector_of H) p ∙ ap (λ n. cond (o.id.replica == p) (max o.id.counter n) n) (at-vector_of H p)

-- it is canonical where no counter is 0
pub canonical-vector_of : (H : List Operation) → ((o : Operation) → IsAmong o H → o.id.counter ≢ 0) → IsCanonical (vector_of H)
canonical-vector_of [] h = tt
canonical-vector_of (o ∷ H) h = canonical_raise o.id (vector_of H) (h o (inl refl)) (canonical-vector_of H (λ x m. h x (inr m)))

-- no counter of a legal history is 0
pub legal_counters : (H : List Operation) → IsLegal H → (o : Operation) → IsAmong o H → o.id.counter ≢ 0
legal_counters [] l o m = absurd m
legal_counters (x ∷ H) l o
    (inl e) = λ z. (let c = l.1.counter in let k : o.id.counter ≡ x.id.counter = ap (λ (y : Operation). y.id.counter) e in
    omega (arith, c, k, z))
legal_counters (x ∷ H) l o (inr m) = legal_counters H l.0 o m

-- the order of the operations doesn't matter
pub vector_same : (H O : List Operation) → HaveSameOperations O H → ((o : Operation) → IsAmong o H → o.id.counter ≢ 0)
    → vector_of H ≡ vector_of O
vector_same H O same h =
    same_vectors (vector_of H) (vector_of O) (canonical-vector_of H h) (canonical-vector_of O (λ o m. h o ((same o).0 m)))
    (λ p. at-vector_of H p ∙ sym (greatest_same (λ a. a.replica == p) O H same) ∙ sym (at-vector_of O p))

-- its greatest counter is that of the history
pub greatest-vector_of : (H : List Operation) → greatest (vector_of H) ≡ greatest_of (λ a. true) H
greatest-vector_of [] = refl
greatest-vector_of (o ∷ H) = greatest-raise o.id (vector_of H) ∙ ap (max o.id.counter) (greatest-vector_of H)

-- and at most the history's length
pub greatest_within : (H : List Operation) → IsLegal H → greatest_of (λ a. true) H ≤ length H
greatest_within H l = elim (greatest_cases (λ a. true) H) [
  | inl z ↦ omega arith
  | inr r ↦ (let c : r.0.id.counter ≤ length H = counter_within H l r.0 r.1 in let e : r.0.id.counter ≡ greatest_of (λ a. true) H = r.3 in
      omega arith)
]
