-- A canonical vector names no more replicas than a list has that has them all.
use Rattle.std.proofs.Common.{◌≡◌, ◌≢◌, ◌≤◌, ◌<◌, ◌||◌, ◌==◌, not, ℕ, suc, Bool, true, false, cond, List, [], ◌∷◌, length, refl, sym}
use Rattle.std.proofs.Common.{◌∙◌, arith, true≢false}
use Rattle.std.specs.List.{filter}
use Rattle.std.proofs.lemmas.Bool.{and_parts, and_from, or_left, or_right, eqb-true}
use Rattle.ids.specs.Members.{is_member}
use Rattle.ids.specs.Vectors.{Vector, names_only, AreAbove, IsCanonical}

-- the other numbers
abbrev others : ℕ → List ℕ → List ℕ
others p ps = filter (λ q. not (q == p)) ps

no_more : (p : ℕ) (ps : List ℕ) → length (others p ps) ≤ length ps
no_more p [] = omega arith
no_more p (q ∷ ps) = at_test (q == p) (no_more p ps)
  where
    at_test : (b : Bool) → length (others p ps) ≤ length ps → length (cond (not b) (q ∷ others p ps) (others p ps)) ≤ suc (length ps)
    at_test true rest = omega (arith, rest)
    at_test false rest = omega (arith, rest)

-- without a member there are fewer
fewer : (p : ℕ) (ps : List ℕ) → is_member ps p ≡ true → length (others p ps) < length ps
fewer p [] h = absurd (true≢false (sym h))
fewer p (q ∷ ps) h = at_test (q == p) h (fewer p ps) (no_more p ps)
  where
    at_test : (b : Bool) → (b || is_member ps p) ≡ true → (is_member ps p ≡ true → length (others p ps) < length ps)
        → length (others p ps) ≤ length ps → length (cond (not b) (q ∷ others p ps) (others p ps)) < suc (length ps)
    at_test true m rest few = omega (arith, few)
    at_test false m rest few = omega (arith, rest m)

-- another member is still there
still_there : (p r : ℕ) (ps : List ℕ) → p ≢ r → is_member ps r ≡ true → is_member (others p ps) r ≡ true
still_there p r [] differs h = absurd (true≢false (sym h))
still_there p r (q ∷ ps) differs h = at_tests (q == p) (q == r) refl refl h (still_there p r ps differs)
  where
    at_tests : (b c : Bool) → (q == p) ≡ b → (q == r) ≡ c → (c || is_member ps r) ≡ true
        → (is_member ps r ≡ true → is_member (others p ps) r ≡ true) → is_member (cond (not b) (q ∷ others p ps) (others p ps)) r ≡ true
    at_tests true true e f m rest = absurd (differs (sym (eqb-true q p e) ∙ eqb-true q r f))
    at_tests true false e f m rest = rest m
    at_tests false true e f m rest = or_left (q == r) (is_member (others p ps) r) f
    at_tests false false e f m rest = or_right (q == r) (is_member (others p ps) r) (rest m)

-- what is above p is of the other numbers
of_others : (p : ℕ) (ps : List ℕ) (v : Vector) → AreAbove p v → names_only ps v ≡ true → names_only (others p ps) v ≡ true
of_others p ps [] above h = refl
of_others p ps (a ∷ v) above h =
    let parts = and_parts (is_member ps a.replica) (names_only ps v) h in
    and_from (is_member (others p ps) a.replica) (names_only (others p ps) v)
    (still_there p a.replica ps (λ same. omega (arith, same, above.0)) parts.0) (of_others p ps v above.1 parts.1)

pub few_named : (ps : List ℕ) (v : Vector) → IsCanonical v → names_only ps v ≡ true → length v ≤ length ps
few_named ps [] h all = omega arith
few_named ps (a ∷ v) h all =
    let parts = and_parts (is_member ps a.replica) (names_only ps v) all in
    let rest = few_named (others a.replica ps) v h.2 (of_others a.replica ps v h.1 parts.1) in
    let less = fewer a.replica ps parts.0 in
    omega (arith, rest, less)
