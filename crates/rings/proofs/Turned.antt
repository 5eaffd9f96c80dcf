-- Rings that begin at their first slots.
use Rattle.std.proofs.Common.{◌≡◌, ℕ, zero, suc, ◌+◌, ◌*◌, ◌<◌, ◌≤◌, ◌==◌, ◌&&◌, ◌⊎◌, inl, inr, Bool, true, false, true≢false, IsTrue, List}
use Rattle.std.proofs.Common.{[], ◌∷◌, ◌++◌, length, get_or, set, take, drop, refl, sym, ap, ◌∙◌, arith, length-set, append_assoc}
use Rattle.std.specs.List.{All}
use Rattle.std.proofs.lemmas.Bool.{cases_lt, eqb-true, eq-eqb}
use Rattle.std.proofs.lemmas.List.{append-nil, drop-drop, take-append-drop, take_at, drop_at, get_or-set_same, get_or-set_other}
use Rattle.std.proofs.Math.Seq.{take-add}
use Rattle.rings.specs.Rings.{turned, straight, are_zero}
use Rattle.rings.proofs.Straight.{in_ring, length-turned, ring_full, rest_full}
use Rattle.rings.proofs.Slots.{MeetsSlot}

zero_parts : (s : ℕ) (ss : List ℕ) → are_zero (s ∷ ss) ≡ true → (s ≡ 0) × (are_zero ss ≡ true)
zero_parts s ss h = at_test (s == 0) refl h
  where
    at_test : (b : Bool) → (s == 0) ≡ b → (b && are_zero ss) ≡ true → (s ≡ 0) × (are_zero ss ≡ true)
    at_test true e rest = (eqb-true s 0 e, rest)
    at_test false e rest = absurd (true≢false (sym rest))

pub zero_from_all : (ss : List ℕ) → All (λ s. s ≡ 0) ss → IsTrue (are_zero ss)
zero_from_all [] all = refl
zero_from_all (s ∷ ss) all = ap (λ b. b && are_zero ss) (eq-eqb s 0 (all 0 0 (omega arith)))
    ∙ zero_from_all ss (λ k d lt. all (suc k) d (omega (arith, lt)))

pub zero_take : (n : ℕ) (ss : List ℕ) → are_zero ss ≡ true → are_zero (take n ss) ≡ true
zero_take zero ss h = refl
zero_take (suc n) [] h = refl
zero_take (suc n) (s ∷ ss) h =
    let both = zero_parts s ss h in
    ap (λ b. b && are_zero (take n ss)) (eq-eqb s 0 both.0) ∙ zero_take n ss both.1

module _ {X : Type 0} where
  -- the list is the slots
  pub zero_straight : (n : ℕ) (starts : List ℕ) (xs : List X) → are_zero starts ≡ true → straight n starts xs ≡ xs
  zero_straight n [] xs h = refl
  zero_straight n (s ∷ starts) xs h =
      let both = zero_parts s starts h in
      (λ t. turned (both.0 t) (take n xs) ++ zero_straight n starts (drop n xs) both.1 t)
      ∙ ap (λ ys. ys ++ drop n xs) (append-nil (take n xs))
      ∙ take-append-drop n xs

  -- a ring that is turned to begin at its first slot leaves the list
  pub straight_turned : (n : ℕ) (starts : List ℕ) (xs : List X) (k : ℕ) → k < length starts → length starts * n ≤ length xs
      → straight n (set starts k 0)
      (take (in_ring n k 0) xs ++ (turned (get_or starts k 0) (take n (drop (in_ring n k 0) xs)) ++ drop n (drop (in_ring n k 0) xs)))
      ≡ straight n starts xs
  straight_turned n [] xs k lt full = absurd (omega (arith, lt))
  straight_turned n (s ∷ starts) xs zero lt full =
      let ring = turned s (take n xs) in
      let long : length ring ≡ n = length-turned s (take n xs) ∙ ring_full n (length starts) xs full in
      (λ t. turned 0 (take_at ring (drop n xs) n long t) ++ straight n starts (drop_at ring (drop n xs) n long t))
      ∙ ap (λ ys. ys ++ straight n starts (drop n xs)) (append-nil ring)
  straight_turned n (s ∷ starts) xs (suc k) lt full =
      let q = in_ring n k 0 in
      let front = take n xs in
      let back = drop n xs in
      let mid = turned (get_or starts k 0) (take n (drop q back)) ++ drop n (drop q back) in
      let inner = take q back ++ mid in
      let long : length front ≡ n = ring_full n (length starts) xs full in
      let there : drop (n + q) xs ≡ drop q back = sym (drop-drop q n xs) in
      let split : take (n + q) xs ++ (turned (get_or starts k 0) (take n (drop (n + q) xs)) ++ drop n (drop (n + q) xs)) ≡ front ++ inner =
      (λ t. take-add n q xs t ++ (turned (get_or starts k 0) (take n (there t)) ++ drop n (there t)))
      ∙ append_assoc front (take q back) mid in
      (λ t. turned s (take n (split t)) ++ straight n (set starts k 0) (drop n (split t)))
      ∙ (λ t. turned s (take_at front inner n long t) ++ straight n (set starts k 0) (drop_at front inner n long t))
      ∙ ap (λ ys. turned s front ++ ys) (straight_turned n starts back k (omega (arith, lt)) (rest_full n (length starts) xs full))

-- one more ring begins at its first slot
pub zero_more : (k : ℕ) (ss : List ℕ) → k < length ss → ((i : ℕ) (d : ℕ) → i < k → get_or ss i d ≡ 0) → (i d : ℕ) → i < k + 1
    → get_or (set ss k 0) i d ≡ 0
zero_more k ss inside before i d lt = by_cases (cases_lt i k)
  where
    by_cases : (i < k) ⊎ (k ≤ i) → get_or (set ss k 0) i d ≡ 0
    by_cases (inl h) = get_or-set_other ss k i 0 d (λ e. absurd (omega (arith, e, h))) ∙ before i d h
    by_cases (inr h) =
        let same : i ≡ k = omega (arith, h, lt) in
        ap (λ j. get_or (set ss k 0) j d) same ∙ get_or-set_same ss k 0 d inside

pub all_zeroed : (k : ℕ) (ss : List ℕ) → All (λ s. s < 2048) ss → k < length ss → All (λ s. s < 2048) (set ss k 0)
all_zeroed k ss all inside i d lt = by_cases (cases_lt i k)
  where
    other : (i ≡ k → ⊥) → get_or (set ss k 0) i d < 2048
    other ne = rw (get_or-set_other ss k i 0 d ne) (all i d (let a = length-set ss k 0 in omega (arith, a, lt)))

    by_cases : (i < k) ⊎ (k ≤ i) → get_or (set ss k 0) i d < 2048
    by_cases (inl h) = other (λ e. omega (arith, e, h))
    by_cases (inr h) = at_most (cases_lt k i)
      where
        at_most : (k < i) ⊎ (i ≤ k) → get_or (set ss k 0) i d < 2048
        at_most (inl g) = other (λ e. omega (arith, e, g))
        at_most (inr g) =
            let same : i ≡ k = omega (arith, h, g) in
            rw (same, get_or-set_same ss k 0 d inside) (omega arith)

-- two items in one another's position, by their slots
pub swapped : {X : Type 0} (starts : List ℕ) (xs : List X) (a b i j : ℕ) (d : X) → MeetsSlot starts xs a i
    → MeetsSlot starts (set xs i (get_or xs j d)) b j → MeetsSlot starts xs b j
    → straight 2048 starts (set (set xs i (get_or xs j d)) j (get_or xs i d))
    ≡ set (set (straight 2048 starts xs) a (get_or (straight 2048 starts xs) b d)) b (get_or (straight 2048 starts xs) a d)
swapped starts xs a b i j d first after second =
    after.set (get_or xs i d)
    ∙ ap (λ ys. set ys b (get_or xs i d)) (first.set (get_or xs j d))
    ∙ (λ t. set (set (straight 2048 starts xs) a (sym (second.get d) t)) b (sym (first.get d) t))
