-- The vector that a column indexed by a table stands for.
use Rattle.std.proofs.Common.{◌≡◌, ℕ, ◌≤◌, max, Bool, true, false, cond, ◌==◌, List, [], ◌∷◌, ◌++◌, refl, sym, ap, ◌∙◌, arith, length}
use Rattle.std.proofs.lemmas.Bool.{or_left, or_right, false_from_ne_true, eqb-true, eqb-false, cond-false}
use Rattle.semantics.specs.Ids.{id_at}
use Rattle.semantics.specs.Vectors.{at, greatest, raise, IsCanonical}
use Rattle.semantics.specs.Tables.{component, greatest_in, by_table}
use Rattle.ids.specs.Members.{is_member, AreDistinct}
use Rattle.ids.proofs.RaisedVectors.{at-raise, canonical_raise, greatest-raise}

at_absent : (ps cs : List ℕ) (p : ℕ) → (is_member ps p ≡ true → ⊥) → at (by_table ps cs) p ≡ 0
at_absent [] cs p h = refl
at_absent (q ∷ ps) [] p h = refl
at_absent (q ∷ ps) (c ∷ cs) p h = at_zero (at_absent ps cs p (λ e. h (or_right (q == p) (is_member ps p) e))) (c == 0)
  where
    at_zero : at (by_table ps cs) p ≡ 0 → (b : Bool) → at (cond b (by_table ps cs) (raise (id_at c q) (by_table ps cs))) p ≡ 0
    at_zero rest true = rest
    at_zero rest false = at-raise (id_at c q) (by_table ps cs) p
        ∙ cond-false (q == p) _ _ (false_from_ne_true (q == p) (λ e. h (or_left (q == p) (is_member ps p) e))) ∙ rest

-- the vector has each replica's counter
pub at-by_table : (ps cs : List ℕ) → AreDistinct ps → (p : ℕ) → at (by_table ps cs) p ≡ component ps cs p
at-by_table [] cs d p = refl
at-by_table (q ∷ ps) [] d p = refl
at-by_table (q ∷ ps) (c ∷ cs) d p = at_tests (c == 0) refl (q == p) refl (at-by_table ps cs d.1 p)
  where
    at_tests : (z : Bool) → (c == 0) ≡ z → (t : Bool) → (q == p) ≡ t → at (by_table ps cs) p ≡ component ps cs p
        → at (cond z (by_table ps cs) (raise (id_at c q) (by_table ps cs))) p ≡ cond t c (component ps cs p)
    at_tests true e true f rest = at_absent ps cs p (λ h. d.0 (ap (is_member ps) (eqb-true q p f) ∙ h)) ∙ sym (eqb-true c 0 e)
    at_tests true e false f rest = rest
    at_tests false e true f rest = at-raise (id_at c q) (by_table ps cs) p
        ∙ ap (λ b. cond b (max c (at (by_table ps cs) p)) (at (by_table ps cs) p)) f
        ∙ ap (max c) (at_absent ps cs p (λ h. d.0 (ap (is_member ps) (eqb-true q p f) ∙ h))) ∙ (let k : max c 0 ≡ c = grind arith in k)
    at_tests false e false f rest = at-raise (id_at c q) (by_table ps cs) p
        ∙ ap (λ b. cond b (max c (at (by_table ps cs) p)) (at (by_table ps cs) p)) f ∙ rest

pub greatest-by_table : (ps cs : List ℕ) → length cs ≤ length ps → greatest (by_table ps cs) ≡ greatest_in cs
greatest-by_table [] [] h = refl
greatest-by_table [] (c ∷ cs) h = absurd (omega arith)
greatest-by_table (q ∷ ps) [] h = refl
greatest-by_table (q ∷ ps) (c ∷ cs) h = at_zero (c == 0) refl (greatest-by_table ps cs (omega arith))
  where
    at_zero : (z : Bool) → (c == 0) ≡ z → greatest (by_table ps cs) ≡ greatest_in cs
        → greatest (cond z (by_table ps cs) (raise (id_at c q) (by_table ps cs))) ≡ max c (greatest_in cs)
    at_zero true e rest = rest ∙ (let k : c ≡ 0 = eqb-true c 0 e in let m : greatest_in cs ≡ max c (greatest_in cs) = grind arith in m)
    at_zero false e rest = greatest-raise (id_at c q) (by_table ps cs) ∙ ap (max c) rest

-- a longer table names the same, and a component past the width is 0
pub by_table-grows : (ps qs cs : List ℕ) → length cs ≤ length ps → by_table (ps ++ qs) cs ≡ by_table ps cs
by_table-grows [] [] [] h = refl
by_table-grows [] (q ∷ qs) [] h = refl
by_table-grows [] qs (c ∷ cs) h = absurd (omega arith)
by_table-grows (p ∷ ps) qs [] h = refl
by_table-grows (p ∷ ps) qs (c ∷ cs) h = ap (λ v. cond (c == 0) v (raise (id_at c p) v)) (by_table-grows ps qs cs (omega arith))

-- a vector by a table is in the order of the replicas, whatever the order of the table
pub canonical-by_table : (ps cs : List ℕ) → IsCanonical (by_table ps cs)
canonical-by_table [] cs = tt
canonical-by_table (q ∷ ps) [] = tt
canonical-by_table (q ∷ ps) (c ∷ cs) = at_zero (c == 0) refl (canonical-by_table ps cs)
  where
    at_zero : (z : Bool) → (c == 0) ≡ z → IsCanonical (by_table ps cs)
        → IsCanonical (cond z (by_table ps cs) (raise (id_at c q) (by_table ps cs)))
    at_zero true e rest = rest
    at_zero false e rest = canonical_raise (id_at c q) (by_table ps cs) (eqb-false c 0 e) rest
