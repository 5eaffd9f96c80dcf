-- The counter that a vector names of each replica, once one of them has another counter.
use Rattle.std.proofs.Common.{◌≡◌, ℕ, ◌<◌, ◌≤◌, ◌==◌, max, nat_lt, Bool, true, false, cond, [], ◌∷◌, refl, sym, ap, ◌∙◌, subst, arith}
use Rattle.std.proofs.lemmas.Bool.{cond-true, cond-false, eqb-true, eqb-false, ltb-false, ltb-true}
use Rattle.semantics.specs.Ids.{OpId}
use Rattle.semantics.specs.Vectors.{AreAbove, IsCanonical, Vector, at}
use Rattle.wire.specs.Deltas.{named_before, with_counter}
use Rattle.wire.proofs.DeltaSteps.{above_more}
use Rattle.wire.proofs.ToldDeltas.{absent}

-- in front of what is above
at_named : (a : OpId) (v : Vector) (p : ℕ) → AreAbove a.replica v
    → at (named_before a v) p ≡ cond (a.replica == p) a.counter (at v p)
at_named a v p h = by (a.counter == 0) (a.replica == p) refl refl
  where
    none : a.replica ≡ p → at v p ≡ 0
    none e = subst (λ q. at v q ≡ 0) e (absent a.replica v h)

    by : (s t : Bool) → (a.counter == 0) ≡ s → (a.replica == p) ≡ t
        → at (cond s v (a ∷ v)) p ≡ cond t a.counter (at v p)
    by true true zero same = none (eqb-true a.replica p same) ∙ sym (eqb-true a.counter 0 zero)
    by true false zero same = refl
    by false true zero same =
        cond-true (a.replica == p) _ _ same ∙ ap (max a.counter) (none (eqb-true a.replica p same))
        ∙ (let k : max a.counter 0 ≡ a.counter = grind arith in k)
    by false false zero same = cond-false (a.replica == p) _ _ same

pub at-with_counter : (a : OpId) (v : Vector) (p : ℕ) → IsCanonical v
    → at (with_counter a v) p ≡ cond (a.replica == p) a.counter (at v p)
at-with_counter a [] p h = at_named a [] p tt
at-with_counter a (b ∷ v) p h = by (nat_lt b.replica a.replica) (a.replica == b.replica) refl refl (at-with_counter a v p h.2)
  where
    behind : (x y : Bool) → (b.replica == p) ≡ x → (a.replica == p) ≡ y → b.replica < a.replica
        → cond x (max b.counter (cond y a.counter (at v p))) (cond y a.counter (at v p))
        ≡ cond y a.counter (cond x (max b.counter (at v p)) (at v p))
    behind true true is_b is_a l = absurd
        (let e : b.replica ≡ p = eqb-true b.replica p is_b in let f : a.replica ≡ p = eqb-true a.replica p is_a in omega (arith, e, f, l))
    behind true false is_b is_a l = refl
    behind false true is_b is_a l = refl
    behind false false is_b is_a l = refl

    there : (y x : Bool) → (a.replica == p) ≡ y → (b.replica == p) ≡ x → a.replica ≡ b.replica
        → cond y a.counter (at v p) ≡ cond y a.counter (cond x (max b.counter (at v p)) (at v p))
    there true x is_a is_b e = refl
    there false false is_a is_b e = refl
    there false true is_a is_b e = absurd (eqb-false a.replica p is_a (e ∙ eqb-true b.replica p is_b))

    by : (s t : Bool) → nat_lt b.replica a.replica ≡ s → (a.replica == b.replica) ≡ t
        → at (with_counter a v) p ≡ cond (a.replica == p) a.counter (at v p)
        → at (cond s (b ∷ with_counter a v) (cond t (named_before a v) (named_before a (b ∷ v)))) p
        ≡ cond (a.replica == p) a.counter (at (b ∷ v) p)
    by true t is_s is_t rest =
        ap (λ n. cond (b.replica == p) (max b.counter n) n) rest
        ∙ behind (b.replica == p) (a.replica == p) refl refl (ltb-true b.replica a.replica is_s)
    by false true is_s is_t rest =
        let e : a.replica ≡ b.replica = eqb-true a.replica b.replica is_t in
        at_named a v p (subst (λ q. AreAbove q v) (sym e) h.1) ∙ there (a.replica == p) (b.replica == p) refl refl e
    by false false is_s is_t rest =
        let le : a.replica ≤ b.replica = ltb-false b.replica a.replica is_s in
        let ne = eqb-false a.replica b.replica is_t in
        let l : a.replica < b.replica = omega (arith, le, ne) in
        at_named a (b ∷ v) p (l, above_more a.replica b.replica v le h.1)
