-- Differences, and a base with its changes, pair by pair.
use Rattle.std.proofs.Common.{◌≡◌, ◌≢◌, ℕ, ◌<◌, ◌≤◌, ◌==◌, nat_lt, Bool, true, false, cond, [], ◌∷◌, refl, sym, ap, ◌∙◌}
use Rattle.std.proofs.Common.{subst, arith}
use Rattle.std.proofs.lemmas.Bool.{cond-true, cond-false, eq-eqb, eqb-true, eqb-false, le-ltb, lt-ltb, ltb-true, ltb-false, ne_eqb}
use Rattle.semantics.specs.Ids.{OpId, id_at}
use Rattle.semantics.specs.Vectors.{AreAbove, IsCanonical, Vector}
use Rattle.wire.specs.Deltas.{BeginsFrom, behind, beside, changed, delta, named_before, with_counter}

pub above_more : (p q : ℕ) (v : Vector) → p ≤ q → AreAbove q v → AreAbove p v
above_more p q [] l h = tt
above_more p q (a ∷ v) l h = (omega (arith, l, h.0), above_more p q v l h.1)

-- ---- differences

beside_above : (b : OpId) (d : Vector) → AreAbove b.replica d → beside b d ≡ id_at 0 b.replica ∷ d
beside_above b [] h = refl
beside_above b (a ∷ d) h = rw (
  le-ltb a.replica b.replica (omega (arith, h.0)),
  ne_eqb a.replica b.replica (λ e. omega (arith, e, h.0)),
) refl

beside_before : (a b : OpId) (d : Vector) → a.replica < b.replica → beside b (a ∷ d) ≡ a ∷ beside b d
beside_before a b d l = rw (lt-ltb a.replica b.replica l) refl

beside_there : (a b : OpId) (d : Vector) → a.replica ≡ b.replica → beside b (a ∷ d) ≡ cond (a.counter == b.counter) d (a ∷ d)
beside_there a b d e = rw (le-ltb a.replica b.replica (omega (arith, e)), eq-eqb a.replica b.replica e) refl

-- a pair below all of the base
pub delta_before : (a : OpId) (base v : Vector) → AreAbove a.replica base → delta base (a ∷ v) ≡ a ∷ delta base v
delta_before a [] v h = refl
delta_before a (b ∷ base) v h = ap (beside b) (delta_before a base v h.1) ∙ beside_before a b (delta base v) h.0

above_beside : (p : ℕ) (b : OpId) (d : Vector) → p < b.replica → AreAbove p d → AreAbove p (beside b d)
above_beside p b [] l h = (l, tt)
above_beside p b (a ∷ d) l h = by (nat_lt a.replica b.replica) (a.replica == b.replica) (a.counter == b.counter) (above_beside p b d l h.1)
  where
    by : (s t u : Bool) → AreAbove p (beside b d)
        → AreAbove p (cond s (a ∷ beside b d) (cond t (cond u d (a ∷ d)) (id_at 0 b.replica ∷ a ∷ d)))
    by true t u more = (h.0, more)
    by false true true more = h.1
    by false true false more = h
    by false false u more = (l, h)

pub above_delta : (p : ℕ) (base v : Vector) → AreAbove p base → AreAbove p v → AreAbove p (delta base v)
above_delta p [] v h k = k
above_delta p (b ∷ base) v h k = above_beside p b (delta base v) h.0 (above_delta p base v h.1 k)

-- a replica of the base below all of the vector
pub delta_lost : (b : OpId) (base v : Vector) → AreAbove b.replica base → AreAbove b.replica v
    → delta (b ∷ base) v ≡ id_at 0 b.replica ∷ delta base v
delta_lost b base v h k = beside_above b (delta base v) (above_delta b.replica base v h k)

-- a replica of both
pub delta_both : (a b : OpId) (base v : Vector) → a.replica ≡ b.replica → AreAbove b.replica base
    → delta (b ∷ base) (a ∷ v) ≡ cond (a.counter == b.counter) (delta base v) (a ∷ delta base v)
delta_both a b base v e h =
    ap (beside b) (delta_before a base v (subst (λ p. AreAbove p base) (sym e) h)) ∙ beside_there a b (delta base v) e

pub delta_same : (a b : OpId) (base v : Vector) → a.replica ≡ b.replica → a.counter ≡ b.counter → AreAbove b.replica base
    → delta (b ∷ base) (a ∷ v) ≡ delta base v
delta_same a b base v e c h = delta_both a b base v e h ∙ cond-true (a.counter == b.counter) _ _ (eq-eqb a.counter b.counter c)

pub delta_other : (a b : OpId) (base v : Vector) → a.replica ≡ b.replica → a.counter ≢ b.counter → AreAbove b.replica base
    → delta (b ∷ base) (a ∷ v) ≡ a ∷ delta base v
delta_other a b base v e c h = delta_both a b base v e h ∙ cond-false (a.counter == b.counter) _ _ (ne_eqb a.counter b.counter c)

-- ---- changes

counter_above : (a : OpId) (v : Vector) → AreAbove a.replica v → with_counter a v ≡ named_before a v
counter_above a [] h = refl
counter_above a (b ∷ v) h = rw (
  le-ltb b.replica a.replica (omega (arith, h.0)),
  ne_eqb a.replica b.replica (λ e. omega (arith, e, h.0)),
) refl

counter_past : (a b : OpId) (v : Vector) → b.replica < a.replica → with_counter a (b ∷ v) ≡ b ∷ with_counter a v
counter_past a b v l = rw (lt-ltb b.replica a.replica l) refl

counter_there : (a b : OpId) (v : Vector) → a.replica ≡ b.replica → with_counter a (b ∷ v) ≡ named_before a v
counter_there a b v e = rw (le-ltb b.replica a.replica (omega (arith, e)), eq-eqb a.replica b.replica e) refl

above_named : (p : ℕ) (a : OpId) (v : Vector) → p < a.replica → AreAbove p v → AreAbove p (named_before a v)
above_named p a v l h = by (a.counter == 0)
  where
    by : (t : Bool) → AreAbove p (cond t v (a ∷ v))
    by true = h
    by false = (l, h)

above_counter : (p : ℕ) (a : OpId) (v : Vector) → p < a.replica → AreAbove p v → AreAbove p (with_counter a v)
above_counter p a [] l h = above_named p a [] l tt
above_counter p a (b ∷ v) l h = by (nat_lt b.replica a.replica) (a.replica == b.replica) (above_counter p a v l h.1)
  where
    by : (s t : Bool) → AreAbove p (with_counter a v)
        → AreAbove p (cond s (b ∷ with_counter a v) (cond t (named_before a v) (named_before a (b ∷ v))))
    by true t more = (h.0, more)
    by false true more = above_named p a v l h.1
    by false false more = above_named p a (b ∷ v) l h

pub above_changed : (p : ℕ) (base d : Vector) → AreAbove p base → AreAbove p d → AreAbove p (changed base d)
above_changed p base [] h k = h
above_changed p base (a ∷ d) h k = above_counter p a (changed base d) k.0 (above_changed p base d h k.1)

-- a pair of the base below all changes
pub changed_past : (b : OpId) (base d : Vector) → AreAbove b.replica d → changed (b ∷ base) d ≡ b ∷ changed base d
changed_past b base [] h = refl
changed_past b base (a ∷ d) h = ap (with_counter a) (changed_past b base d h.1) ∙ counter_past a b (changed base d) h.0

-- a change below all of the base and the other changes
pub changed_new : (a : OpId) (base d : Vector) → AreAbove a.replica base → AreAbove a.replica d
    → changed base (a ∷ d) ≡ named_before a (changed base d)
changed_new a base d h k = counter_above a (changed base d) (above_changed a.replica base d h k)

-- a change of the base's first replica
pub changed_there : (a b : OpId) (base d : Vector) → a.replica ≡ b.replica → AreAbove a.replica d
    → changed (b ∷ base) (a ∷ d) ≡ named_before a (changed base d)
changed_there a b base d e h =
    ap (with_counter a) (changed_past b base d (subst (λ p. AreAbove p d) e h)) ∙ counter_there a b (changed base d) e

-- what is left of the base after a change
pub changed_behind : (a : OpId) (base d : Vector) → IsCanonical base → BeginsFrom a.replica base → AreAbove a.replica d
    → changed base (a ∷ d) ≡ named_before a (changed (behind a.replica base) d)
changed_behind a [] d rises from h = changed_new a [] d tt h
changed_behind a (b ∷ base) d rises from h = by (b.replica == a.replica) refl
  where
    by : (t : Bool) → (b.replica == a.replica) ≡ t
        → changed (b ∷ base) (a ∷ d) ≡ named_before a (changed (cond t base (b ∷ base)) d)
    by true e = changed_there a b base d (sym (eqb-true b.replica a.replica e)) h
    by false e =
        let ne = eqb-false b.replica a.replica e in
        let l : a.replica < b.replica = omega (arith, from, ne) in
        changed_new a (b ∷ base) d (l, above_more a.replica b.replica base (omega (arith, l)) rises.1) h

pub canonical_behind : (p : ℕ) (base : Vector) → IsCanonical base → IsCanonical (behind p base)
canonical_behind p [] h = tt
canonical_behind p (b ∷ base) h = by (b.replica == p)
  where
    by : (t : Bool) → IsCanonical (cond t base (b ∷ base))
    by true = h.2
    by false = h

pub named-zero : (a : OpId) (v : Vector) → a.counter ≡ 0 → named_before a v ≡ v
named-zero a v e = cond-true (a.counter == 0) _ _ (eq-eqb a.counter 0 e)

pub named-some : (a : OpId) (v : Vector) → a.counter ≢ 0 → named_before a v ≡ a ∷ v
named-some a v n = cond-false (a.counter == 0) _ _ (ne_eqb a.counter 0 n)

canonical_named : (a : OpId) (v : Vector) → AreAbove a.replica v → IsCanonical v → IsCanonical (named_before a v)
canonical_named a v h k = by (a.counter == 0) refl
  where
    by : (t : Bool) → (a.counter == 0) ≡ t → IsCanonical (cond t v (a ∷ v))
    by true e = k
    by false e = (eqb-false a.counter 0 e, h, k)

canonical_counter : (a : OpId) (v : Vector) → IsCanonical v → IsCanonical (with_counter a v)
canonical_counter a [] h = canonical_named a [] tt tt
canonical_counter a (b ∷ v) h = by (nat_lt b.replica a.replica) (a.replica == b.replica) refl refl (canonical_counter a v h.2)
  where
    by : (s t : Bool) → nat_lt b.replica a.replica ≡ s → (a.replica == b.replica) ≡ t → IsCanonical (with_counter a v)
        → IsCanonical (cond s (b ∷ with_counter a v) (cond t (named_before a v) (named_before a (b ∷ v))))
    by true t is_s is_t more = (h.0, above_counter b.replica a v (ltb-true b.replica a.replica is_s) h.1, more)
    by false true is_s is_t more = canonical_named a v
        (subst (λ p. AreAbove p v) (sym (eqb-true a.replica b.replica is_t)) h.1) h.2
    by false false is_s is_t more =
        let le : a.replica ≤ b.replica = ltb-false b.replica a.replica is_s in
        let ne = eqb-false a.replica b.replica is_t in
        let l : a.replica < b.replica = omega (arith, le, ne) in
        canonical_named a (b ∷ v) (l, above_more a.replica b.replica v le h.1) h

-- a canonical base stays canonical
pub canonical_changed : (base d : Vector) → IsCanonical base → IsCanonical (changed base d)
canonical_changed base [] h = h
canonical_changed base (a ∷ d) h = canonical_counter a (changed base d) (canonical_changed base d h)
