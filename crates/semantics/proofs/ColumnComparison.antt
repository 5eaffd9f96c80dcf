-- Comparing columns is comparing their vectors.
use Rattle.std.proofs.Common.{◌≡◌, ℕ, ◌≤◌, Bool, true, false, cond, ◌==◌, List, [], ◌∷◌, refl, sym, ap, ◌∙◌, true≢false, arith, length}
use Rattle.std.proofs.Common.{nat_le}
use Rattle.std.proofs.lemmas.Bool.{or_left, or_right, false_from_ne_true, eqb-true, eq-eqb, cond-false}
use Rattle.semantics.specs.Operations.{Operation}
use Rattle.semantics.specs.NamedIds.{greatest_counter}
use Rattle.semantics.specs.Vectors.{at, is_at_most}
use Rattle.semantics.specs.Tables.{component, all_at_most, by_table}
use Rattle.ids.specs.Members.{is_member, AreDistinct}
use Rattle.semantics.specs.Stamped.{Stamped}
use Rattle.semantics.specs.Faults.{is_ready}
use Rattle.std.proofs.lemmas.Bool.{leb-true, le-leb, and_parts, and_from}
use Rattle.semantics.proofs.VectorCounters.{at_most-at, at_most-from, ready-at, ready-from}
use Rattle.semantics.proofs.TableVectors.{at-by_table}

same_bool : (b c : Bool) → (b ≡ true → c ≡ true) → (c ≡ true → b ≡ true) → b ≡ c
same_bool true c f g = sym (f refl)
same_bool false true f g = g refl
same_bool false false f g = refl

component_absent : (ps cs : List ℕ) (p : ℕ) → (is_member ps p ≡ true → ⊥) → component ps cs p ≡ 0
component_absent [] cs p h = refl
component_absent (q ∷ ps) [] p h = refl
component_absent (q ∷ ps) (c ∷ cs) p h =
    cond-false (q == p) c (component ps cs p) (false_from_ne_true (q == p) (λ e. h (or_left (q == p) (is_member ps p) e)))
    ∙ component_absent ps cs p (λ e. h (or_right (q == p) (is_member ps p) e))

columns-at : (f : ℕ → ℕ) (ps cs ds : List ℕ) → all_at_most cs ds ≡ true → (p : ℕ) → component ps cs p ≤ component ps ds p
columns-at f [] cs ds h p = omega arith
columns-at f (q ∷ ps) [] ds h p = omega arith
columns-at f (q ∷ ps) (c ∷ cs) [] h p = absurd (true≢false (sym h))
columns-at f (q ∷ ps) (c ∷ cs) (d ∷ ds) h p =
    let both = and_parts (nat_le c d) (all_at_most cs ds) h in
    chosen (q == p) (leb-true c d both.0) (columns-at f ps cs ds both.1 p)
  where
    chosen : (b : Bool) → c ≤ d → component ps cs p ≤ component ps ds p → cond b c (component ps cs p) ≤ cond b d (component ps ds p)
    chosen true h k = h
    chosen false h k = k

columns-from : (ps cs ds : List ℕ) → AreDistinct ps → length cs ≡ length ps → length ds ≡ length ps
    → ((p : ℕ) → component ps cs p ≤ component ps ds p) → all_at_most cs ds ≡ true
columns-from [] [] ds a l m h = refl
columns-from [] (c ∷ cs) ds a l m h = absurd (omega arith)
columns-from (q ∷ ps) [] ds a l m h = refl
columns-from (q ∷ ps) (c ∷ cs) [] a l m h = absurd (omega arith)
columns-from (q ∷ ps) (c ∷ cs) (d ∷ ds) a l m h =
    and_from (nat_le c d) (all_at_most cs ds) (le-leb c d (at_first (q == q) (eq-eqb q q refl) (h q)))
    (columns-from ps cs ds a.1 (omega arith) (omega arith) (λ p. at_rest p (q == p) refl (h p)))
  where
    at_first : (b : Bool) → b ≡ true → cond b c (component ps cs q) ≤ cond b d (component ps ds q) → c ≤ d
    at_first true e k = k
    at_first false e k = absurd (true≢false (sym e))

    at_rest : (p : ℕ) (b : Bool) → (q == p) ≡ b → cond b c (component ps cs p) ≤ cond b d (component ps ds p)
        → component ps cs p ≤ component ps ds p
    at_rest p true e k = let z = component_absent ps cs p (λ t. a.0 (ap (is_member ps) (eqb-true q p e) ∙ t)) in omega (arith, z)
    at_rest p false e k = k

-- comparing columns of the table's width is comparing vectors
pub at_most-by_table : (ps cs ds : List ℕ) → AreDistinct ps → length cs ≡ length ps → length ds ≡ length ps
    → is_at_most (by_table ps cs) (by_table ps ds) ≡ all_at_most cs ds
at_most-by_table ps cs ds a l m = same_bool _ _
    (λ h. columns-from ps cs ds a l m
    (λ p. (let k = at_most-at (by_table ps cs) (by_table ps ds) h p in let u = at-by_table ps cs a p in let v = at-by_table ps ds a p in
    omega (arith, k, u, v))))
    (λ h. at_most-from (by_table ps cs) (by_table ps ds)
    (λ p. (let k = columns-at (λ n. n) ps cs ds h p in let u = at-by_table ps cs a p in let v = at-by_table ps ds a p in
    omega (arith, k, u, v))))

-- an operation is ready exactly where its column is at most that of all that was applied
pub ready-by_table : (G : List Operation) (ps cs ds : List ℕ) (s : Stamped) → s.vector ≡ by_table ps cs → AreDistinct ps
    → length cs ≡ length ps → length ds ≡ length ps → ((p : ℕ) → component ps ds p ≡ greatest_counter G p)
    → is_ready G s ≡ all_at_most cs ds
ready-by_table G ps cs ds s e a l m all = same_bool _ _
    (λ h. columns-from ps cs ds a l m (λ p. (let k = ready-at G s h p in let u = at-stamp p in let v = all p in omega (arith, k, u, v))))
    (λ h. ready-from G s (λ p. (let k = columns-at (λ n. n) ps cs ds h p in let u = at-stamp p in let v = all p in omega (arith, k, u, v))))
  where
    at-stamp : (p : ℕ) → at s.vector p ≡ component ps cs p
    at-stamp p = ap (λ v. at v p) e ∙ at-by_table ps cs a p
