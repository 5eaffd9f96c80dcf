-- A canonical vector is its base with its differences, which ascend and differ from the base.
use Rattle.std.proofs.Common.{◌≡◌, ◌≢◌, ◌⊎◌, inl, inr, [], ◌∷◌, refl, sym, ap, ◌∙◌}
use Rattle.std.proofs.Common.{subst, arith}
use Rattle.std.proofs.lemmas.Bool.{cases_eq, cases_order}
use Rattle.semantics.specs.Ids.{OpId, id_at}
use Rattle.semantics.specs.Vectors.{AreAbove, IsCanonical, Vector}
use Rattle.wire.specs.Deltas.{changed, delta}
use Rattle.wire.proofs.DeltaSteps.{above_delta, above_more, changed_new, changed_past, changed_there, delta_before, delta_lost, delta_other}
use Rattle.wire.proofs.DeltaSteps.{delta_same, named-some, named-zero}

pub same_id : (a b : OpId) → a.counter ≡ b.counter → a.replica ≡ b.replica → a ≡ b
same_id a b c p = λ i. record { counter = c i; replica = p i }

-- a replica that is lost
back_lost : (b : OpId) (base v : Vector) → AreAbove b.replica base → AreAbove b.replica v → changed base (delta base v) ≡ v
    → changed (b ∷ base) (delta (b ∷ base) v) ≡ v
back_lost b base v h k back =
    ap (changed (b ∷ base)) (delta_lost b base v h k)
    ∙ changed_there (id_at 0 b.replica) b base (delta base v) refl (above_delta b.replica base v h k)
    ∙ named-zero (id_at 0 b.replica) (changed base (delta base v)) refl
    ∙ back

-- a replica that is new
back_new : (a : OpId) (base v : Vector) → AreAbove a.replica base → AreAbove a.replica v → a.counter ≢ 0 → changed base (delta base v) ≡ v
    → changed base (delta base (a ∷ v)) ≡ a ∷ v
back_new a base v h k some back =
    ap (changed base) (delta_before a base v h)
    ∙ changed_new a base (delta base v) h (above_delta a.replica base v h k)
    ∙ named-some a (changed base (delta base v)) some
    ∙ ap (λ (w : Vector). a ∷ w) back

-- a replica of both
back_both : (a b : OpId) (base v : Vector) → a.replica ≡ b.replica → AreAbove b.replica base → AreAbove b.replica v → a.counter ≢ 0
    → changed base (delta base v) ≡ v
    → changed (b ∷ base) (delta (b ∷ base) (a ∷ v)) ≡ a ∷ v
back_both a b base v e h k some back = by (cases_eq a.counter b.counter)
  where
    by : (a.counter ≡ b.counter) ⊎ (a.counter ≡ b.counter → ⊥) → changed (b ∷ base) (delta (b ∷ base) (a ∷ v)) ≡ a ∷ v
    by (inl c) =
        ap (changed (b ∷ base)) (delta_same a b base v e c h)
        ∙ changed_past b base (delta base v) (above_delta b.replica base v h k)
        ∙ (λ i. sym (same_id a b c e) i ∷ back i)
    by (inr c) =
        ap (changed (b ∷ base)) (delta_other a b base v e c h)
        ∙ changed_there a b base (delta base v) e (subst (λ p. AreAbove p (delta base v)) (sym e) (above_delta b.replica base v h k))
        ∙ named-some a (changed base (delta base v)) some
        ∙ ap (λ (w : Vector). a ∷ w) back

-- a canonical vector is its base with its differences
pub changed-delta : (base v : Vector) → IsCanonical base → IsCanonical v → changed base (delta base v) ≡ v
changed-delta [] [] h k = refl
changed-delta [] (a ∷ v) h k = back_new a [] v tt k.1 k.0 (changed-delta [] v h k.2)
changed-delta (b ∷ base) [] h k = back_lost b base [] h.1 tt (changed-delta base [] h.2 k)
changed-delta (b ∷ base) (a ∷ v) h k = elim (cases_order a.replica b.replica) [
  | inl e ↦ back_both a b base v e h.1 (subst (λ p. AreAbove p v) e k.1) k.0 (changed-delta base v h.2 k.2)
  | inr other ↦ elim other [
    | inl l ↦ back_new a (b ∷ base) v (l, above_more a.replica b.replica base (omega (arith, l)) h.1) k.1 k.0
        (changed-delta (b ∷ base) v h k.2)
    | inr l ↦ back_lost b base (a ∷ v) h.1 (l, above_more b.replica a.replica v (omega (arith, l)) k.1)
        (changed-delta base (a ∷ v) h.2 k)
  ]
]
