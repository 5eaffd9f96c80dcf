-- If changes ascend and each changes something, then what they make of a base has them as its differences from the base.
use Rattle.std.proofs.Common.{◌≡◌, ◌≢◌, ◌⊎◌, inl, inr, [], ◌∷◌, refl, sym, ap, ◌∙◌, subst, arith}
use Rattle.std.proofs.lemmas.Bool.{cases_eq, cases_order}
use Rattle.ids.proofs.CanonicalVectors.{at_first, at_later}
use Rattle.semantics.specs.Ids.{OpId, id_at}
use Rattle.semantics.specs.Vectors.{AreAbove, IsCanonical, Vector, at}
use Rattle.wire.specs.Deltas.{changed, delta, named_before}
use Rattle.wire.proofs.DeltaLaws.{same_id}
use Rattle.wire.proofs.DeltaSteps.{above_changed, above_more, changed_new, changed_past, changed_there, delta_before, delta_lost}
use Rattle.wire.proofs.DeltaSteps.{delta_other, delta_same, named-some, named-zero}
use Rattle.wire.proofs.ToldDeltas.{Tells, absent}

-- nothing differs from itself
delta-none : (base : Vector) → IsCanonical base → delta base base ≡ []
delta-none [] h = refl
delta-none (b ∷ base) h = delta_same b b base base refl refl h.1 ∙ delta-none base h.2

-- what changes something relative to a base does so without the base's first pair, if none of it is about that pair's replica
tells_less : (b : OpId) (base d : Vector) → AreAbove b.replica d → Tells (b ∷ base) d → Tells base d
tells_less b base [] h k = tt
tells_less b base (a ∷ d) h k =
    (k.0, (λ e. k.1 (at_later b base a.replica h.0 ∙ e)), tells_less b base d h.1 k.2)

-- a replica that the base doesn't have
back_new : (a : OpId) (base d : Vector) → AreAbove a.replica base → Tells base (a ∷ d) → delta base (changed base d) ≡ d
    → delta base (changed base (a ∷ d)) ≡ a ∷ d
back_new a base d h told back =
    let some : a.counter ≢ 0 = λ e. told.1 (absent a.replica base h ∙ sym e) in
    ap (delta base) (changed_new a base d h told.0 ∙ named-some a (changed base d) some)
    ∙ delta_before a base (changed base d) h
    ∙ ap (λ (w : Vector). a ∷ w) back

-- the base's first replica
back_there : (a b : OpId) (base d : Vector) → a.replica ≡ b.replica → AreAbove b.replica base → Tells (b ∷ base) (a ∷ d)
    → delta base (changed base d) ≡ d → delta (b ∷ base) (changed (b ∷ base) (a ∷ d)) ≡ a ∷ d
back_there a b base d e h told back = ap (delta (b ∷ base)) (changed_there a b base d e told.0) ∙ by (cases_eq a.counter 0)
  where
    by : (a.counter ≡ 0) ⊎ (a.counter ≡ 0 → ⊥) → delta (b ∷ base) (named_before a (changed base d)) ≡ a ∷ d
    by (inl zero) =
        let above = above_changed b.replica base d h (subst (λ p. AreAbove p d) e told.0) in
        ap (delta (b ∷ base)) (named-zero a (changed base d) zero)
        ∙ delta_lost b base (changed base d) h above
        ∙ (λ i. same_id (id_at 0 b.replica) a (sym zero) (sym e) i ∷ back i)
    by (inr some) =
        let other : a.counter ≢ b.counter = λ c. told.1 (ap (at (b ∷ base)) e ∙ at_first b base h ∙ sym c) in
        ap (delta (b ∷ base)) (named-some a (changed base d) some)
        ∙ delta_other a b base (changed base d) e other h
        ∙ ap (λ (w : Vector). a ∷ w) back

-- a replica of the base that no change is about
back_past : (b : OpId) (base d : Vector) → AreAbove b.replica base → AreAbove b.replica d → delta base (changed base d) ≡ d
    → delta (b ∷ base) (changed (b ∷ base) d) ≡ d
back_past b base d h k back =
    ap (delta (b ∷ base)) (changed_past b base d k) ∙ delta_same b b base (changed base d) refl refl h ∙ back

pub delta-changed : (base d : Vector) → IsCanonical base → Tells base d → delta base (changed base d) ≡ d
delta-changed base [] h told = delta-none base h
delta-changed [] (a ∷ d) h told = back_new a [] d tt told (delta-changed [] d h told.2)
delta-changed (b ∷ base) (a ∷ d) h told = elim (cases_order a.replica b.replica) [
  | inl e ↦
      let above : AreAbove b.replica d = subst (λ p. AreAbove p d) e told.0 in
      back_there a b base d e h.1 told (delta-changed base d h.2 (tells_less b base d above told.2))
  | inr other ↦ elim other [
    | inl l ↦ back_new a (b ∷ base) d (l, above_more a.replica b.replica base (omega (arith, l)) h.1) told
        (delta-changed (b ∷ base) d h told.2)
    | inr l ↦
        let above : AreAbove b.replica (a ∷ d) = (l, above_more b.replica a.replica d (omega (arith, l)) told.0) in
        back_past b base (a ∷ d) h.1 above (delta-changed base (a ∷ d) h.2 (tells_less b base (a ∷ d) above told))
  ]
]
