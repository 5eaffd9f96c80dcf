-- A ring whose first item sinks to a position.
use Rattle.std.proofs.Common.{◌≡◌, ℕ, suc, ◌+◌, ◌-◌, ◌<◌, ◌≤◌, List, [], ◌∷◌, ◌++◌, length, get_or, set, take, drop, refl, sym, ap}
use Rattle.std.proofs.Common.{◌∙◌, arith, append_assoc, length-append}
use Rattle.std.specs.List.{insert}
use Rattle.std.proofs.Math.Numerals.{add-one}
use Rattle.std.proofs.lemmas.List.{take_at, drop_at, length-take-le, take-append-drop, get_or_at, set_at}
use Rattle.std.proofs.lemmas.List.Edits.{insert-append_left, insert-append_right}
use Rattle.rings.specs.Rings.{turned, straight}
use Rattle.rings.proofs.Straight.{length-turned}
use Rattle.rings.proofs.Around.{Around, around_now, insert_behind, insert_within}

module _ {X : Type 0} where
  -- the first items turned by one: the first of all goes behind the others
  first_turned : (a : X) (A : List X) (o : ℕ) → turned 1 (take (o + 1) (a ∷ A)) ++ drop (o + 1) (a ∷ A) ≡ insert A o a
  first_turned a A o =
      (λ t. turned 1 (take (add-one o t) (a ∷ A)) ++ drop (add-one o t) (a ∷ A))
      ∙ append_assoc (take o A) (a ∷ []) (drop o A)

  -- within the first part
  pub sunk_before : (A B rest : List X) (o : ℕ) (v : X) → o < length A → A ++ B ≡ v ∷ rest
      → (turned 1 (take (o + 1) A) ++ drop (o + 1) A) ++ B ≡ insert rest o v
  sunk_before [] B rest o v lt old = absurd (omega (arith, lt))
  sunk_before (a ∷ A) B rest o v lt old =
      let first : a ≡ v = cc in
      let others : A ++ B ≡ rest = cc in
      (λ t. first_turned (first t) A o t ++ B)
      ∙ sym (insert-append_left A B o v (omega (arith, lt)))
      ∙ ap (λ ys. insert ys o v) others

  -- round the end of the first part into the second one, whose first item then ends the first part
  pub sunk_round : (A B F S rest : List X) (o : ℕ) (v x y : X) → 0 < length A → length A ≤ o → o - length A < length B
      → F ≡ turned 1 A → S ≡ turned 1 (take (o - length A + 1) B) ++ drop (o - length A + 1) B
      → y ≡ get_or F (length A - 1) y → x ≡ get_or S (o - length A) x → A ++ B ≡ v ∷ rest
      → set F (length A - 1) x ++ set S (o - length A) y ≡ insert rest o v
  sunk_round [] B F S rest o v x y some le lt first second from to old = absurd (omega (arith, some))
  sunk_round (a ∷ A) [] F S rest o v x y some le lt first second from to old = absurd (omega (arith, lt))
  sunk_round (a ∷ A) (b ∷ B) F S rest o v x y some le lt first second from to old =
      let j : ℕ = o - length (a ∷ A) in
      let last : length A ≡ length (a ∷ A) - 1 = omega arith in
      let few : j ≤ length B = omega (arith, lt) in
      let there : length (take j B) ≡ j = length-take-le j B few in
      let moved : S ≡ take j B ++ b ∷ drop j B = second ∙ first_turned b B j in
      let sunk : y ≡ a = from ∙ (λ t. get_or (first t) (length (a ∷ A) - 1) y) ∙ get_or_at A a [] y (length (a ∷ A) - 1) last in
      let risen : x ≡ b = to ∙ (λ t. get_or (moved t) j x) ∙ get_or_at (take j B) b (drop j B) x j there in
      let behind : suc j ≡ o - length A = omega (arith, le) in
      let top : a ≡ v = cc in
      let others : A ++ b ∷ B ≡ rest = cc in
      (λ t. set (first t) (length (a ∷ A) - 1) (risen t) ++ set (moved t) j (sunk t))
      ∙ (λ t. set_at A a [] b (length (a ∷ A) - 1) last t ++ set_at (take j B) b (drop j B) a j there t)
      ∙ append_assoc A (b ∷ []) (insert B j a)
      ∙ ap (λ i. A ++ insert (b ∷ B) i a) behind
      ∙ sym (insert-append_right A (b ∷ B) (length A) o a refl (omega (arith, le)))
      ∙ (λ t. insert (others t) o (top t))

  -- an item came before a ring, whose last one fell out: once the ring's first item has sunk, it stands at its position in the list
  pub straight_sunk : (n : ℕ) (starts : List ℕ) (xs ring old : List X) (k p m o : ℕ) (v x : X) → Around n starts xs k p m → o < n
      → length ring ≡ length (take m (drop p xs))
      → ((u : X) (rest : List X) → turned (get_or starts k 0) (take m (drop p xs)) ≡ u ∷ rest
      → turned (get_or starts k 0) ring ≡ insert rest o u)
      → p ≤ length old → insert (straight n starts xs) (p + n) x ≡ insert old p v
      → insert (straight n starts (take p xs ++ (ring ++ drop m (drop p xs)))) (p + n) x ≡ insert old (p + o) v
  straight_sunk n starts xs ring old k p m o v x a inside same sunk within came = by_first (turned s (take m (drop p xs))) refl
    where
      s : ℕ
      s = get_or starts k 0

      was : List X
      was = turned s (take m (drop p xs))

      many : length was ≡ n
      many = length-turned s (take m (drop p xs)) ∙ a.full

      front : length (take p old) ≡ p
      front = length-take-le p old within

      both : a.before ++ ((was ++ x ∷ []) ++ a.behind) ≡ take p old ++ v ∷ drop p old
      both = sym (insert_behind a.before was a.behind p n x a.place many)
          ∙ ap (λ ys. insert ys (p + n) x) (sym (around_now n starts xs k p m a))
          ∙ came

      firsts : a.before ≡ take p old
      firsts = sym (take_at a.before ((was ++ x ∷ []) ++ a.behind) p a.place) ∙ ap (take p) both
          ∙ take_at (take p old) (v ∷ drop p old) p front

      others : (was ++ x ∷ []) ++ a.behind ≡ v ∷ drop p old
      others = sym (drop_at a.before ((was ++ x ∷ []) ++ a.behind) p a.place) ∙ ap (drop p) both
          ∙ drop_at (take p old) (v ∷ drop p old) p front

      by_first : (ys : List X) → was ≡ ys
          → insert (straight n starts (take p xs ++ (ring ++ drop m (drop p xs)))) (p + n) x ≡ insert old (p + o) v
      by_first [] e = absurd (omega (arith, many, ap length e, inside))
      by_first (u ∷ rest) e =
          let size : length (u ∷ rest) ≡ n = ap length (sym e) ∙ many in
          let small : o ≤ length rest = omega (arith, size, inside) in
          let more = length-append rest (x ∷ []) in
          let seen : (u ∷ rest ++ x ∷ []) ++ a.behind ≡ v ∷ drop p old = ap (λ ys. (ys ++ x ∷ []) ++ a.behind) (sym e) ∙ others in
          let top : u ≡ v = cc in
          let tail : (rest ++ x ∷ []) ++ a.behind ≡ drop p old = cc in
          (λ t. insert (a.with_ring ring (same ∙ a.full) t) (p + n) x)
          ∙ insert_behind a.before (turned s ring) a.behind p n x a.place (length-turned s ring ∙ same ∙ a.full)
          ∙ (λ t. firsts t ++ ((sunk u rest e t ++ x ∷ []) ++ a.behind))
          ∙ ap (λ ys. take p old ++ (ys ++ a.behind)) (sym (insert-append_left rest (x ∷ []) o u small))
          ∙ sym (insert_within (take p old) (rest ++ x ∷ []) a.behind p o u front (omega (arith, more, small)))
          ∙ (λ t. insert (take p old ++ tail t) (p + o) (top t))
          ∙ ap (λ ys. insert ys (p + o) v) (take-append-drop p old)
