-- The differences of a vector from a base ascend, and the counter of each differs from the base's.
use Rattle.std.proofs.Common.{◌≡◌, ◌≢◌, ◌⊎◌, inl, inr, ℕ, ◌<◌, ◌==◌, [], ◌∷◌, refl, sym, ap, ◌∙◌, subst, arith}
use Rattle.std.specs.Bool.{⊤}
use Rattle.std.proofs.lemmas.Bool.{cases_eq, cases_order, cond-false, ne_eqb}
use Rattle.ids.proofs.CanonicalVectors.{at_first, at_later}
use Rattle.semantics.specs.Ids.{OpId}
use Rattle.semantics.specs.Vectors.{AreAbove, IsCanonical, Vector, at}
use Rattle.wire.specs.Deltas.{delta}
use Rattle.wire.proofs.DeltaSteps.{above_delta, above_more, delta_before, delta_lost, delta_other, delta_same}

-- replicas ascend, and each has another counter in the base
abbrev pub Tells : Vector → Vector → Type 0
Tells base [] = ⊤
Tells base (a ∷ d) = AreAbove a.replica d × (at base a.replica ≢ a.counter) × Tells base d

-- what is below all is not named
pub absent : (p : ℕ) (v : Vector) → AreAbove p v → at v p ≡ 0
absent p [] h = refl
absent p (a ∷ v) h =
    cond-false (a.replica == p) _ _ (ne_eqb a.replica p (λ e. let l : p < a.replica = h.0 in absurd (omega (arith, l, e)))) ∙ absent p v h.1

-- a pair of the base that none of these is about
tells_more : (b : OpId) (base d : Vector) → AreAbove b.replica d → Tells base d → Tells (b ∷ base) d
tells_more b base [] h k = tt
tells_more b base (a ∷ d) h k =
    (k.0, (λ e. k.1 (sym (at_later b base a.replica h.0) ∙ e)), tells_more b base d h.1 k.2)

tells_lost : (b : OpId) (base v : Vector) → b.counter ≢ 0 → AreAbove b.replica base → AreAbove b.replica v → Tells base (delta base v)
    → Tells (b ∷ base) (delta (b ∷ base) v)
tells_lost b base v some h k told =
    let above = above_delta b.replica base v h k in
    subst (Tells (b ∷ base)) (sym (delta_lost b base v h k))
    (above, (λ e. some (sym (at_first b base h) ∙ e)), tells_more b base (delta base v) above told)

tells_new : (a : OpId) (base v : Vector) → a.counter ≢ 0 → AreAbove a.replica base → AreAbove a.replica v → Tells base (delta base v)
    → Tells base (delta base (a ∷ v))
tells_new a base v some h k told =
    subst (Tells base) (sym (delta_before a base v h))
    (above_delta a.replica base v h k, (λ e. some (sym e ∙ absent a.replica base h)), told)

tells_both : (a b : OpId) (base v : Vector) → a.replica ≡ b.replica → AreAbove b.replica base → AreAbove b.replica v
    → Tells base (delta base v) → Tells (b ∷ base) (delta (b ∷ base) (a ∷ v))
tells_both a b base v e h k told = by (cases_eq a.counter b.counter)
  where
    by : (a.counter ≡ b.counter) ⊎ (a.counter ≡ b.counter → ⊥) → Tells (b ∷ base) (delta (b ∷ base) (a ∷ v))
    by (inl c) = subst (Tells (b ∷ base)) (sym (delta_same a b base v e c h))
        (tells_more b base (delta base v) (above_delta b.replica base v h k) told)
    by (inr c) = subst (Tells (b ∷ base)) (sym (delta_other a b base v e c h)) (
      subst (λ p. AreAbove p (delta base v)) (sym e) (above_delta b.replica base v h k),
      (λ x. c (sym x ∙ ap (at (b ∷ base)) e ∙ at_first b base h)),
      tells_more b base (delta base v) (above_delta b.replica base v h k) told,
    )

pub tells-delta : (base v : Vector) → IsCanonical base → IsCanonical v → Tells base (delta base v)
tells-delta [] [] h k = tt
tells-delta [] (a ∷ v) h k = tells_new a [] v k.0 tt k.1 (tells-delta [] v h k.2)
tells-delta (b ∷ base) [] h k = tells_lost b base [] h.0 h.1 tt (tells-delta base [] h.2 k)
tells-delta (b ∷ base) (a ∷ v) h k = elim (cases_order a.replica b.replica) [
  | inl e ↦ tells_both a b base v e h.1 (subst (λ p. AreAbove p v) e k.1) (tells-delta base v h.2 k.2)
  | inr other ↦ elim other [
    | inl l ↦ tells_new a (b ∷ base) v k.0 (l, above_more a.replica b.replica base (omega (arith, l)) h.1) k.1
        (tells-delta (b ∷ base) v h k.2)
    | inr l ↦ tells_lost b base (a ∷ v) h.0 h.1 (l, above_more b.replica a.replica v (omega (arith, l)) k.1)
        (tells-delta base (a ∷ v) h.2 k)
  ]
]
