-- Numbers that rise, and how often each stands among them.
use Rattle.std.proofs.Common.{◌≡◌, refl, sym, ap, ◌∙◌, ℕ, suc, ◌+◌, ◌<◌, ◌≤◌, ◌==◌, ◌⊎◌, inl, inr, false, cond, List, [], ◌∷◌, ◌++◌, get_or}
use Rattle.std.proofs.Common.{subst, arith}
use Rattle.std.specs.Prelude.{⊤}
use Rattle.std.specs.List.{sum_by}
use Rattle.std.specs.List.Sorted.{IsPermutation, IsSorted}
use Rattle.std.specs.Ordering.{is_lt, nat_cmp}
use Rattle.std.proofs.lemmas.Bool.{cases_lt, eq-eqb, ne_eqb}
use Rattle.std.proofs.lemmas.List.Sorted.{sum_by-IsPermutation}
use Rattle.std.proofs.lemmas.List.Sums.{sum_by-cons}
use Rattle.std.proofs.lemmas.Map.Keys.{ge_from_not_lt}

-- how often n stands in a list
abbrev pub count : ℕ → List ℕ → ℕ
count n [] = 0
count n (m ∷ xs) = cond (n == m) 1 0 + count n xs

pub count-append : (n : ℕ) (xs ys : List ℕ) → count n (xs ++ ys) ≡ count n xs + count n ys
count-append n [] ys = omega arith
count-append n (x ∷ xs) ys = let rest = count-append n xs ys in omega arith

count-sum : (n : ℕ) (xs : List ℕ) → sum_by (λ m. cond (n == m) 1 0) xs ≡ count n xs
count-sum n [] = refl
count-sum n (x ∷ xs) = sum_by-cons (λ m. cond (n == m) 1 0) x xs ∙ ap (λ k. cond (n == x) 1 0 + k) (count-sum n xs)

-- in another order each number stands as often
pub count-permutation : (n : ℕ) (xs ys : List ℕ) → IsPermutation xs ys → count n ys ≡ count n xs
count-permutation n xs ys moved = sym (count-sum n ys) ∙ sum_by-IsPermutation (λ m. cond (n == m) 1 0) xs ys moved ∙ count-sum n xs

-- each number is at least n
abbrev pub AreFrom : ℕ → List ℕ → Type 0
AreFrom n [] = ⊤
AreFrom n (x ∷ xs) = (n ≤ x) × AreFrom n xs

-- each number is at most n
abbrev pub AreTo : ℕ → List ℕ → Type 0
AreTo n [] = ⊤
AreTo n (x ∷ xs) = (x ≤ n) × AreTo n xs

-- no number is below one before it
abbrev pub Rises : List ℕ → Type 0
Rises [] = ⊤
Rises (x ∷ xs) = AreFrom x xs × Rises xs

AreFrom-lower : (m n : ℕ) (xs : List ℕ) → m ≤ n → AreFrom n xs → AreFrom m xs
AreFrom-lower m n [] le from = tt
AreFrom-lower m n (x ∷ xs) le from = (let h = from.0 in omega arith, AreFrom-lower m n xs le from.1)

AreFrom-last : (n m : ℕ) (xs : List ℕ) → AreFrom n xs → n ≤ m → AreFrom n (xs ++ m ∷ [])
AreFrom-last n m [] from le = (le, tt)
AreFrom-last n m (x ∷ xs) from le = (from.0, AreFrom-last n m xs from.1 le)

-- a greatest number at the end
pub rises-last : (m : ℕ) (xs : List ℕ) → Rises xs → AreTo m xs → Rises (xs ++ m ∷ [])
rises-last m [] rises to = (tt, tt)
rises-last m (x ∷ xs) rises to = (AreFrom-last x m xs rises.0 to.0, rises-last m xs rises.1 to.1)

-- what a sort leaves rises
pub rises-sorted : (xs : List ℕ) → IsSorted nat_cmp xs → Rises xs
rises-sorted [] sorted = tt
rises-sorted (x ∷ []) sorted = (tt, tt)
rises-sorted (x ∷ y ∷ xs) sorted = by_rest
    (rises-sorted (y ∷ xs)
    (λ k d low high. let e : suc k + 1 ≡ suc (k + 1) = omega arith in
    subst (λ j. is_lt (nat_cmp (get_or (x ∷ y ∷ xs) j d) (get_or (y ∷ xs) k d)) ≡ false) e
    (sorted (suc k) d (omega arith) (omega arith))))
  where
    le : x ≤ y
    le = ge_from_not_lt y x (sorted 0 x (omega arith) (omega arith))

    by_rest : Rises (y ∷ xs) → Rises (x ∷ y ∷ xs)
    by_rest rest = ((le, AreFrom-lower x y xs le rest.0), rest)

-- what is below all stands nowhere
count-below : (n m : ℕ) (xs : List ℕ) → n < m → AreFrom m xs → count n xs ≡ 0
count-below n m [] lt from = refl
count-below n m (x ∷ xs) lt from =
    let above = from.0 in
    let here : cond {A = ℕ} (n == x) 1 0 ≡ 0 = ap {B = ℕ} (λ b. cond b 1 0) (ne_eqb n x (λ same. absurd (omega arith))) in
    let rest = count-below n m xs lt from.1 in
    omega (arith, here, rest)

-- numbers that rise are the same where each stands as often
pub same_rising : (xs ys : List ℕ) → Rises xs → Rises ys → ((n : ℕ) → count n xs ≡ count n ys) → xs ≡ ys
same_rising [] [] rises rises' same = refl
same_rising [] (y ∷ ys) rises rises' same =
    let here : count y (y ∷ ys) ≡ 1 + count y ys = ap (λ b. cond b 1 0 + count y ys) (eq-eqb y y refl) in
    let e = same y in
    absurd (omega arith)
same_rising (x ∷ xs) [] rises rises' same =
    let here : count x (x ∷ xs) ≡ 1 + count x xs = ap (λ b. cond b 1 0 + count x xs) (eq-eqb x x refl) in
    let e = same x in
    absurd (omega arith)
same_rising (x ∷ xs) (y ∷ ys) rises rises' same =
    (λ t. first t ∷ same_rising xs ys rises.1 rises'.1 (λ n. rest n) t)
  where
    not_below : (a b : ℕ) (us vs : List ℕ) → AreFrom b vs → count a (a ∷ us) ≡ count a (b ∷ vs) → b ≤ a
    not_below a b us vs from e = by_cases (cases_lt a b)
      where
        here : count a (a ∷ us) ≡ 1 + count a us
        here = ap (λ t. cond t 1 0 + count a us) (eq-eqb a a refl)

        by_cases : (a < b) ⊎ (b ≤ a) → b ≤ a
        by_cases (inl lt) =
            let none = count-below a b (b ∷ vs) lt ((omega arith), from) in let h = here in absurd (omega (arith, none, h, e))
        by_cases (inr le) = le

    first : x ≡ y
    first =
        let low = not_below x y xs ys rises'.0 (same x) in
        let high = not_below y x ys xs rises.0 (sym (same y)) in
        omega arith

    rest : (n : ℕ) → count n xs ≡ count n ys
    rest n = let e = same n in let h = ap {B = ℕ} (λ m. cond (n == m) 1 0) first in omega (arith, e, h)
