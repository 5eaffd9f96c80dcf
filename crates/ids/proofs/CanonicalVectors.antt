-- Two canonical vectors with the same counters are the same.
use Rattle.std.proofs.Common.{◌≡◌, ◌⊎◌, inl, inr, ℕ, ◌<◌, ◌≤◌, max, ◌==◌, [], ◌∷◌, refl, sym, ap, ◌∙◌, arith}
use Rattle.std.proofs.lemmas.Bool.{eq-eqb, ne_eqb, cond-true, cond-false}
use Rattle.ids.specs.Ids.{OpId}
use Rattle.ids.specs.Vectors.{Vector, at, AreAbove, IsCanonical}

above_absent : (p : ℕ) (v : Vector) → AreAbove p v → (q : ℕ) → q ≤ p → at v q ≡ 0
above_absent p [] h q le = refl
above_absent p (a ∷ v) h q le =
    cond-false (a.replica == q) _ _ (ne_eqb a.replica q (λ e. let k : p < a.replica = h.0 in absurd (omega arith)))
    ∙ above_absent p v h.1 q le

pub at_first : (a : OpId) (v : Vector) → AreAbove a.replica v → at (a ∷ v) a.replica ≡ a.counter
at_first a v h = cond-true (a.replica == a.replica) _ _ (eq-eqb a.replica a.replica refl)
    ∙ ap (max a.counter) (above_absent a.replica v h a.replica (omega arith)) ∙ (let k : max a.counter 0 ≡ a.counter = grind arith in k)

at_below : (a : OpId) (v : Vector) (q : ℕ) → q < a.replica → AreAbove a.replica v → at (a ∷ v) q ≡ 0
at_below a v q le h = cond-false (a.replica == q) _ _ (ne_eqb a.replica q (λ e. absurd (omega arith)))
    ∙ above_absent a.replica v h q (omega arith)

pub at_later : (a : OpId) (v : Vector) (q : ℕ) → a.replica < q → at (a ∷ v) q ≡ at v q
at_later a v q lt = cond-false (a.replica == q) _ _ (ne_eqb a.replica q (λ e. absurd (omega arith)))

order_cases : (m n : ℕ) → (m < n) ⊎ ((m ≡ n) ⊎ (n < m))
order_cases m n = grind arith

-- two canonical vectors with the same counters are the same
pub same_vectors : (u v : Vector) → IsCanonical u → IsCanonical v → ((p : ℕ) → at u p ≡ at v p) → u ≡ v
same_vectors [] [] cu cv h = refl
same_vectors [] (b ∷ v) cu cv h = absurd (cv.0 (sym (at_first b v cv.1) ∙ sym (h b.replica)))
same_vectors (a ∷ u) [] cu cv h = absurd (cu.0 (sym (at_first a u cu.1) ∙ h a.replica))
same_vectors (a ∷ u) (b ∷ v) cu cv h = at_order (order_cases a.replica b.replica) (λ t. same_vectors u v cu.2 cv.2 t)
  where
    rest : a.replica ≡ b.replica → (q : ℕ) → at u q ≡ at v q
    rest e q = elim (order_cases a.replica q) [
      | inl k ↦ sym (at_later a u q k) ∙ h q ∙ at_later b v q (omega arith)
      | inr k ↦ (let le : q ≤ a.replica = elim k [ inl f ↦ omega arith | inr f ↦ omega arith ] in
          above_absent a.replica u cu.1 q le ∙ sym (above_absent b.replica v cv.1 q (omega arith)))
    ]

    at_order : (a.replica < b.replica) ⊎ ((a.replica ≡ b.replica) ⊎ (b.replica < a.replica)) → (((q : ℕ) → at u q ≡ at v q) → u ≡ v)
        → (a ∷ u) ≡ (b ∷ v)
    at_order (inl k) f = absurd (cu.0 (sym (at_first a u cu.1) ∙ h a.replica ∙ at_below b v a.replica k cv.1))
    at_order (inr (inr k)) f = absurd (cv.0 (sym (at_first b v cv.1) ∙ sym (h b.replica) ∙ at_below a u b.replica k cu.1))
    at_order (inr (inl e)) f =
        let c : a.counter ≡ b.counter = sym (at_first a u cu.1) ∙ h a.replica ∙ ap (at (b ∷ v)) e ∙ at_first b v cv.1 in
        let t : u ≡ v = f (rest e) in
        λ i. (record { counter = c i; replica = e i }) ∷ t i
