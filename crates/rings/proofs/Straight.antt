-- What a write to a slot is to the list, and what a ring's turn is.
use Rattle.std.proofs.Common.{◌≡◌, ℕ, zero, suc, ◌+◌, ◌-◌, ◌*◌, ◌<◌, ◌≤◌, ◌⊎◌, inl, inr, List, [], ◌∷◌, ◌++◌, length, get_or, set, take}
use Rattle.std.proofs.Common.{drop, refl, sym, ap, ◌∙◌, arith, length-set, length-append, append_assoc}
use Rattle.std.specs.List.{insert}
use Rattle.std.proofs.lemmas.List.{append-nil, length-take, length-take-le, length-drop, take-append-drop, get_or_append_left}
use Rattle.std.proofs.lemmas.List.{get_or-append_right, get_or-take, get_or-drop, set-append_left, set-append_right, take-set-le}
use Rattle.std.proofs.lemmas.List.{drop-set-lt, drop-set-add, take_all, take_more, take-set, drop_all, drop-set, take_at, drop_at}
use Rattle.std.proofs.lemmas.List.Edits.{insert-append_right}
use Rattle.std.proofs.Math.Seq.{take-set-lt}
use Rattle.rings.specs.Rings.{turned, straight}

-- the position of an item of a ring, which has n, by the number of its ring
abbrev pub in_ring : ℕ → ℕ → ℕ → ℕ
in_ring n zero o = o
in_ring n (suc k) o = n + in_ring n k o

pub in_ring_is : (n k o p : ℕ) → p ≡ n * k → in_ring n k o ≡ p + o
in_ring_is n zero o p e = omega (arith, e)
in_ring_is n (suc k) o p e = ap (λ i. n + i) (in_ring_is n k o (n * k) refl) ∙ omega (arith, e)

-- w is i, or i less a whole ring
abbrev pub IsWrapped : ℕ → ℕ → ℕ → Type 0
IsWrapped n i w = ((i < n) × (w ≡ i)) ⊎ ((n ≤ i) × (w + n ≡ i))

-- p is the slot before s in a ring of n
abbrev pub IsBefore : ℕ → ℕ → ℕ → Type 0
IsBefore n s p = (s ≡ p + 1) ⊎ ((s ≡ 0) × (n ≡ p + 1))

past_ring : (n m i : ℕ) → suc m * n ≤ i → (n ≤ i) × (m * n ≤ i - n)
past_ring n m i past = at_product (m * n) (omega arith)
  where
    at_product : (p : ℕ) → suc m * n ≡ n + p → (n ≤ i) × (p ≤ i - n)
    at_product p e = (omega (arith, e, past), omega (arith, e, past))

module _ {X : Type 0} where
  pub length-turned : (s : ℕ) (ring : List X) → length (turned s ring) ≡ length ring
  length-turned s ring = length-append (drop s ring) (take s ring)
      ∙ (let a = length-drop s ring in let b = length-take s ring in omega (arith, a, b))

  turned-get : (n s o w : ℕ) (ring : List X) (d : X) → length ring ≡ n → s < n → o < n → IsWrapped n (s + o) w
      → get_or (turned s ring) o d ≡ get_or ring w d
  turned-get n s o w ring d long within inside (inl (lt, e)) =
      let a = length-drop s ring in
      get_or_append_left (drop s ring) (take s ring) d o (omega (arith, a, long, lt)) ∙ get_or-drop s ring o d
      ∙ ap (λ i. get_or ring i d) (sym e)
  turned-get n s o w ring d long within inside (inr (ge, e)) =
      let a = length-drop s ring in
      get_or-append_right (drop s ring) (take s ring) (n - s) o d (a ∙ ap (λ l. l - s) long) (omega (arith, ge))
      ∙ ap (λ i. get_or (take s ring) i d) (omega (arith, ge, e, within))
      ∙ get_or-take s ring w d (omega (arith, ge, e, inside))

  turned-set : (n s o w : ℕ) (ring : List X) (v : X) → length ring ≡ n → s < n → o < n → IsWrapped n (s + o) w
      → turned s (set ring w v) ≡ set (turned s ring) o v
  turned-set n s o w ring v long within inside (inl (lt, e)) =
      let a = length-drop s ring in
      ap (λ i. turned s (set ring i v)) e
      ∙ (λ t. drop-set-add s ring o v t ++ take-set-le s ring (s + o) v (omega arith) t)
      ∙ sym (set-append_left (drop s ring) (take s ring) o v (omega (arith, a, long, lt)))
  turned-set n s o w ring v long within inside (inr (ge, e)) =
      let a = length-drop s ring in
      (λ t. drop-set-lt s ring w v (omega (arith, ge, e, inside)) t ++ take-set-lt s ring w v (omega (arith, ge, e, inside)) t)
      ∙ ap (λ i. drop s ring ++ set (take s ring) i v) (omega (arith, ge, e, within))
      ∙ sym (set-append_right (drop s ring) (take s ring) (n - s) o v (a ∙ ap (λ l. l - s) long) (omega (arith, ge)))

  -- a ring that begins one slot earlier, with a new item there: the new one comes first, and the last one has gone
  turned_back : (n s p : ℕ) (ring : List X) (v d : X) → length ring ≡ n → IsBefore n s p → p < n
      → turned p (set ring p v) ++ get_or ring p d ∷ [] ≡ v ∷ turned s ring
  turned_back n s p ring v d long before within =
      (λ t. (drop-set ring p v (omega (arith, long, within)) t ++ take-set ring p v t) ++ get_or ring p d ∷ [])
      ∙ ap (λ xs. v ∷ xs) (append_assoc (drop (p + 1) ring) (take p ring) (get_or ring p d ∷ [])
      ∙ ap (λ xs. drop (p + 1) ring ++ xs) (sym (take_more ring p d (omega (arith, long, within))))
      ∙ by_start before)
    where
      by_start : IsBefore n s p → turned (p + 1) ring ≡ turned s ring
      by_start (inl e) = ap (λ i. turned i ring) (sym e)
      by_start (inr (e, full)) =
          (λ t. drop_all (p + 1) ring (omega (arith, long, full)) t ++ take_all (p + 1) ring (omega (arith, long, full)) t)
          ∙ sym (append-nil ring)
          ∙ ap (λ i. turned i ring) (sym e)

  pub ring_full : (n k : ℕ) (xs : List X) → suc k * n ≤ length xs → length (take n xs) ≡ n
  ring_full n k xs long = length-take-le n xs (at_product (k * n) (omega arith))
    where
      at_product : (m : ℕ) → suc k * n ≡ n + m → n ≤ length xs
      at_product m e = omega (arith, e, long)

  pub rest_full : (n k : ℕ) (xs : List X) → suc k * n ≤ length xs → k * n ≤ length (drop n xs)
  rest_full n k xs long = let a = length-drop n xs in omega (arith, a, long)

  pub length-straight : (n : ℕ) (starts : List ℕ) (xs : List X) → length (straight n starts xs) ≡ length xs
  length-straight n [] xs = refl
  length-straight n (s ∷ starts) xs =
      length-append (turned s (take n xs)) (straight n starts (drop n xs))
      ∙ (λ t. length-turned s (take n xs) t + length-straight n starts (drop n xs) t)
      ∙ sym (length-append (take n xs) (drop n xs))
      ∙ ap length (take-append-drop n xs)

  -- an item of a ring
  pub straight-get : (n : ℕ) (starts : List ℕ) (xs : List X) (k o w : ℕ) (d : X) → k < length starts → length starts * n ≤ length xs
      → get_or starts k 0 < n → o < n
      → IsWrapped n (get_or starts k 0 + o) w → w < n → get_or (straight n starts xs) (in_ring n k o) d ≡ get_or xs (in_ring n k w) d
  straight-get n [] xs k o w d lt full within inside wrapped small = absurd (omega (arith, lt))
  straight-get n (s ∷ starts) xs zero o w d lt full within inside wrapped small =
      let long = ring_full n (length starts) xs full in
      let a = length-turned s (take n xs) in
      get_or_append_left (turned s (take n xs)) (straight n starts (drop n xs)) d o (omega (arith, a, long, inside))
      ∙ turned-get n s o w (take n xs) d long within inside wrapped
      ∙ get_or-take n xs w d small
  straight-get n (s ∷ starts) xs (suc k) o w d lt full within inside wrapped small =
      let long = ring_full n (length starts) xs full in
      get_or-append_right (turned s (take n xs)) (straight n starts (drop n xs)) n (n + in_ring n k o) d
      (length-turned s (take n xs) ∙ long) (omega arith)
      ∙ ap (λ i. get_or (straight n starts (drop n xs)) i d) (omega arith)
      ∙ straight-get n starts (drop n xs) k o w d (omega (arith, lt)) (rest_full n (length starts) xs full) within inside wrapped small
      ∙ get_or-drop n xs (in_ring n k w) d

  pub straight-set : (n : ℕ) (starts : List ℕ) (xs : List X) (k o w : ℕ) (v : X) → k < length starts → length starts * n ≤ length xs
      → get_or starts k 0 < n → o < n
      → IsWrapped n (get_or starts k 0 + o) w → w < n
      → straight n starts (set xs (in_ring n k w) v) ≡ set (straight n starts xs) (in_ring n k o) v
  straight-set n [] xs k o w v lt full within inside wrapped small = absurd (omega (arith, lt))
  straight-set n (s ∷ starts) xs zero o w v lt full within inside wrapped small =
      let long = ring_full n (length starts) xs full in
      let a = length-turned s (take n xs) in
      (λ t. turned s (take-set-lt n xs w v small t) ++ straight n starts (drop-set-lt n xs w v small t))
      ∙ ap (λ ys. ys ++ straight n starts (drop n xs)) (turned-set n s o w (take n xs) v long within inside wrapped)
      ∙ sym (set-append_left (turned s (take n xs)) (straight n starts (drop n xs)) o v (omega (arith, a, long, inside)))
  straight-set n (s ∷ starts) xs (suc k) o w v lt full within inside wrapped small =
      let long = ring_full n (length starts) xs full in
      (λ t. turned s (take-set-le n xs (n + in_ring n k w) v (omega arith) t) ++ straight n starts (drop-set-add n xs (in_ring n k w) v t))
      ∙ ap (λ ys. turned s (take n xs) ++ ys)
      (straight-set n starts (drop n xs) k o w v (omega (arith, lt)) (rest_full n (length starts) xs full) within inside wrapped small)
      ∙ ap (λ i. turned s (take n xs) ++ set (straight n starts (drop n xs)) i v) (omega arith)
      ∙ sym
      (set-append_right (turned s (take n xs)) (straight n starts (drop n xs)) n (n + in_ring n k o) v
      (length-turned s (take n xs) ∙ long) (omega arith))

  -- an item that comes before a ring, once the ring has turned back by one, goes behind it as its last one
  pub straight_back : (n : ℕ) (starts : List ℕ) (xs : List X) (k p : ℕ) (v d : X) → k < length starts → length starts * n ≤ length xs
      → IsBefore n (get_or starts k 0) p → p < n
      → insert (straight n (set starts k p) (set xs (in_ring n k p) v)) (in_ring n (suc k) 0) (get_or xs (in_ring n k p) d)
      ≡ insert (straight n starts xs) (in_ring n k 0) v
  straight_back n [] xs k p v d lt full before small = absurd (omega (arith, lt))
  straight_back n (s ∷ starts) xs zero p v d lt full before small =
      let long = ring_full n (length starts) xs full in
      let ring = take n xs in
      let rest = straight n starts (drop n xs) in
      let new = turned p (set ring p v) in
      let many : length new ≡ n = length-turned p (set ring p v) ∙ length-set ring p v ∙ long in
      let none : n + 0 - n ≡ 0 = omega arith in
      (λ t. insert (turned p (take-set-lt n xs p v small t) ++ straight n starts (drop-set-lt n xs p v small t)) (n + 0) (get_or xs p d))
      ∙ insert-append_right new rest n (n + 0) (get_or xs p d) many (omega arith)
      ∙ ap (λ i. new ++ insert rest i (get_or xs p d)) none
      ∙ sym (append_assoc new (get_or xs p d ∷ []) rest)
      ∙ ap (λ x. (new ++ x ∷ []) ++ rest) (sym (get_or-take n xs p d small))
      ∙ ap (λ ys. ys ++ rest) (turned_back n s p ring v d long before small)
  straight_back n (s ∷ starts) xs (suc k) p v d lt full before small =
      let long = ring_full n (length starts) xs full in
      let ring = turned s (take n xs) in
      let many : length ring ≡ n = length-turned s (take n xs) ∙ long in
      let rest = straight n (set starts k p) (set (drop n xs) (in_ring n k p) v) in
      let old = straight n starts (drop n xs) in
      let last = get_or (drop n xs) (in_ring n k p) d in
      let here : n + in_ring n (suc k) 0 - n ≡ in_ring n (suc k) 0 = omega arith in
      let there : n + in_ring n k 0 - n ≡ in_ring n k 0 = omega arith in
      (λ t. insert
      (turned s (take-set-le n xs (n + in_ring n k p) v (omega arith) t)
      ++ straight n (set starts k p) (drop-set-add n xs (in_ring n k p) v t))
      (n + in_ring n (suc k) 0) (sym (get_or-drop n xs (in_ring n k p) d) t))
      ∙ insert-append_right ring rest n (n + in_ring n (suc k) 0) last many (omega arith)
      ∙ ap (λ i. ring ++ insert rest i last) here
      ∙ ap (λ ys. ring ++ ys)
      (straight_back n starts (drop n xs) k p v d (omega (arith, lt)) (rest_full n (length starts) xs full) before small)
      ∙ ap (λ i. ring ++ insert old i v) (sym there)
      ∙ sym (insert-append_right ring old n (n + in_ring n k 0) v many (omega arith))

  -- what follows the rings stands in its own slots
  pub straight-get_past : (n : ℕ) (starts : List ℕ) (xs : List X) (i : ℕ) (d : X) → length starts * n ≤ length xs → length starts * n ≤ i
      → get_or (straight n starts xs) i d ≡ get_or xs i d
  straight-get_past n [] xs i d full past = refl
  straight-get_past n (s ∷ starts) xs i d full past =
      let long = ring_full n (length starts) xs full in
      let ring = take n xs in
      let at = past_ring n (length starts) i past in
      get_or-append_right (turned s ring) (straight n starts (drop n xs)) n i d (length-turned s ring ∙ long) at.0
      ∙ straight-get_past n starts (drop n xs) (i - n) d (rest_full n (length starts) xs full) at.1
      ∙ get_or-drop n xs (i - n) d
      ∙ ap (λ j. get_or xs j d) (let h = at.0 in omega (arith, h))

  pub straight-set_past : (n : ℕ) (starts : List ℕ) (xs : List X) (i : ℕ) (v : X) → length starts * n ≤ length xs → length starts * n ≤ i
      → straight n starts (set xs i v) ≡ set (straight n starts xs) i v
  straight-set_past n [] xs i v full past = refl
  straight-set_past n (s ∷ starts) xs i v full past =
      let long = ring_full n (length starts) xs full in
      let ring = take n xs in
      let at = past_ring n (length starts) i past in
      let back : n + (i - n) ≡ i = let h = at.0 in omega (arith, h) in
      (λ t. turned s (take-set-le n xs i v at.0 t) ++ straight n starts (drop n (set xs (sym back t) v)))
      ∙ (λ t. turned s ring ++ straight n starts (drop-set-add n xs (i - n) v t))
      ∙ ap (λ ys. turned s ring ++ ys) (straight-set_past n starts (drop n xs) (i - n) v (rest_full n (length starts) xs full) at.1)
      ∙ sym (set-append_right (turned s ring) (straight n starts (drop n xs)) n i v (length-turned s ring ∙ long) at.0)

  -- an item after the rings goes among what follows them
  pub straight-insert : (n : ℕ) (starts : List ℕ) (xs : List X) (i : ℕ) (v : X) → length starts * n ≤ length xs → length starts * n ≤ i
      → straight n starts (insert xs i v) ≡ insert (straight n starts xs) i v
  straight-insert n [] xs i v full past = refl
  straight-insert n (s ∷ starts) xs i v full past =
      let long = ring_full n (length starts) xs full in
      let ring = take n xs in
      let at = past_ring n (length starts) i past in
      let split : insert xs i v ≡ ring ++ insert (drop n xs) (i - n) v = ap (λ ys. insert ys i v) (sym (take-append-drop n xs))
      ∙ insert-append_right ring (drop n xs) n i v long at.0 in
      (λ t. turned s (take n (split t)) ++ straight n starts (drop n (split t)))
      ∙ (λ t. turned s (take_at ring (insert (drop n xs) (i - n) v) n long t)
      ++ straight n starts (drop_at ring (insert (drop n xs) (i - n) v) n long t))
      ∙ ap (λ ys. turned s ring ++ ys) (straight-insert n starts (drop n xs) (i - n) v (rest_full n (length starts) xs full) at.1)
      ∙ sym (insert-append_right (turned s ring) (straight n starts (drop n xs)) n i v (length-turned s ring ∙ long) at.0)

  -- what follows the rings, once it is a whole ring, is one that begins at its first slot
  pub straight_one_more : (n : ℕ) (starts : List ℕ) (xs : List X) → length xs ≡ length starts * n + n
      → straight n (starts ++ 0 ∷ []) xs ≡ straight n starts xs
  straight_one_more n [] xs long =
      (λ t. (take_all n xs (omega (arith, long)) t ++ []) ++ drop_all n xs (omega (arith, long)) t)
      ∙ append-nil (xs ++ [])
      ∙ append-nil xs
  straight_one_more n (s ∷ starts) xs long =
      ap (λ ys. turned s (take n xs) ++ ys) (straight_one_more n starts (drop n xs) (let a = length-drop n xs in omega (arith, a, long)))
