-- What one ring is to the list.
use Rattle.std.proofs.Common.{◌≡◌, ℕ, zero, suc, ◌+◌, ◌-◌, ◌*◌, ◌<◌, ◌≤◌, List, [], ◌∷◌, ◌++◌, length, get_or, take, drop, refl, sym, ap}
use Rattle.std.proofs.Common.{◌∙◌, arith, append_assoc, length-append, subst}
use Rattle.std.specs.List.{insert}
use Rattle.std.proofs.lemmas.List.{take_at, drop_at, drop-drop, take-append-drop}
use Rattle.std.proofs.lemmas.List.Edits.{insert-append_left, insert-append_right}
use Rattle.std.proofs.Math.Seq.{take-add}
use Rattle.rings.specs.Rings.{turned, straight}
use Rattle.rings.proofs.Straight.{in_ring, length-turned, ring_full, rest_full}
use Rattle.rings.proofs.Slots.{at_ring}

-- what stands before the k-th ring and behind it, whatever the ring holds; its slots are the m from p on, and m is n
pub record Around {X : Type 0} (n : ℕ) (starts : List ℕ) (xs : List X) (k p m : ℕ) : Type 0 where
  pub before : List X
  pub behind : List X
  pub place : length before ≡ p
  pub full : length (take m (drop p xs)) ≡ n
  pub with_ring : (ring : List X) → length ring ≡ n
      → straight n starts (take p xs ++ (ring ++ drop m (drop p xs))) ≡ before ++ (turned (get_or starts k 0) ring ++ behind)

module _ {X : Type 0} where
  around : (n : ℕ) (starts : List ℕ) (xs : List X) (k : ℕ) → k < length starts → length starts * n ≤ length xs
      → Around n starts xs k (in_ring n k 0) n
  around n [] xs k lt full = absurd (omega (arith, lt))
  around n (s ∷ starts) xs zero lt full = record {
    before = [];
    behind = straight n starts (drop n xs);
    place = refl;
    full = ring_full n (length starts) xs full;
    with_ring = λ ring long t. turned s (take_at ring (drop n xs) n long t) ++ straight n starts (drop_at ring (drop n xs) n long t);
  }
  around n (s ∷ starts) xs (suc k) lt full =
      let q = in_ring n k 0 in
      let front = take n xs in
      let back = drop n xs in
      let rest = around n starts back k (omega (arith, lt)) (rest_full n (length starts) xs full) in
      let size : length front ≡ n = ring_full n (length starts) xs full in
      let there : drop (n + q) xs ≡ drop q back = sym (drop-drop q n xs) in
      record {
        before = turned s front ++ rest.before;
        behind = rest.behind;
        place = length-append (turned s front) rest.before ∙ (λ t. (length-turned s front ∙ size) t + rest.place t);
        full = ap (λ ys. length (take n ys)) there ∙ rest.full;
        with_ring = λ ring long.
            let inner = take q back ++ (ring ++ drop n (drop q back)) in
            let split : take (n + q) xs ++ (ring ++ drop n (drop (n + q) xs)) ≡ front ++ inner =
            (λ t. take-add n q xs t ++ (ring ++ drop n (there t))) ∙ append_assoc front (take q back) (ring ++ drop n (drop q back)) in
            (λ t. turned s (take n (split t)) ++ straight n starts (drop n (split t)))
            ∙ (λ t. turned s (take_at front inner n size t) ++ straight n starts (drop_at front inner n size t))
            ∙ ap (λ ys. turned s front ++ ys) (rest.with_ring ring long)
            ∙ sym (append_assoc (turned s front) rest.before (turned (get_or starts k 0) ring ++ rest.behind));
      }

  -- the slots of a ring by their numbers
  pub around_slots : (starts : List ℕ) (xs : List X) (k : ℕ) → k < length starts → length starts * 2048 ≤ length xs
      → Around 2048 starts xs k (k * 2048) (k * 2048 + 2048 - k * 2048)
  around_slots starts xs k lt full =
      let first : in_ring 2048 k 0 ≡ k * 2048 = at_ring k 0 ∙ omega arith in
      let many : 2048 ≡ k * 2048 + 2048 - k * 2048 = omega arith in
      subst (λ p. Around 2048 starts xs k p (k * 2048 + 2048 - k * 2048)) first
      (subst (λ m. Around 2048 starts xs k (in_ring 2048 k 0) m) many (around 2048 starts xs k lt full))

  -- the list with the ring as it is
  pub around_now : (n : ℕ) (starts : List ℕ) (xs : List X) (k p m : ℕ) (a : Around n starts xs k p m)
      → straight n starts xs ≡ a.before ++ (turned (get_or starts k 0) (take m (drop p xs)) ++ a.behind)
  around_now n starts xs k p m a =
      ap (straight n starts) (sym (take-append-drop p xs) ∙ ap (λ ys. take p xs ++ ys) (sym (take-append-drop m (drop p xs))))
      ∙ a.with_ring (take m (drop p xs)) a.full

  -- an item goes behind a part of a list
  pub insert_behind : (before part behind : List X) (p n : ℕ) (x : X) → length before ≡ p → length part ≡ n
      → insert (before ++ (part ++ behind)) (p + n) x ≡ before ++ ((part ++ x ∷ []) ++ behind)
  insert_behind before part behind p n x place long =
      let here : p + n - p ≡ n = omega arith in
      let none : n - n ≡ 0 = omega arith in
      insert-append_right before (part ++ behind) p (p + n) x place (omega arith)
      ∙ ap (λ i. before ++ insert (part ++ behind) i x) here
      ∙ ap (λ ys. before ++ ys) (insert-append_right part behind n n x long (omega arith)
      ∙ ap (λ i. part ++ insert behind i x) none
      ∙ sym (append_assoc part (x ∷ []) behind))

  -- an item goes into a part of a list
  pub insert_within : (before part behind : List X) (p o : ℕ) (v : X) → length before ≡ p → o ≤ length part
      → insert (before ++ (part ++ behind)) (p + o) v ≡ before ++ (insert part o v ++ behind)
  insert_within before part behind p o v place inside =
      let here : p + o - p ≡ o = omega arith in
      insert-append_right before (part ++ behind) p (p + o) v place (omega arith)
      ∙ ap (λ i. before ++ insert (part ++ behind) i v) here
      ∙ ap (λ ys. before ++ ys) (insert-append_left part behind o v inside)
