-- The items that flags show.
use Rattle.std.proofs.Common.{◌≡◌, refl, ap, ◌∙◌, ℕ, zero, suc, ◌+◌, ◌-◌, ◌<◌, ◌≤◌, Bool, true, false, cond, List, [], ◌∷◌, ◌++◌, length}
use Rattle.std.proofs.Common.{get_or, set, drop, Some, slice_get, arith}
use Rattle.std.specs.List.{items_where_true, insert}
use Rattle.std.proofs.Math.Seq.{drop-cons}

module _ {X : Type 0} where
  -- no more items are shown than there are
  pub shown_most : (bs : List Bool) (xs : List X) → length (items_where_true bs xs) ≤ length xs
  shown_most [] xs = omega arith
  shown_most (b ∷ bs) [] = omega arith
  shown_most (true ∷ bs) (x ∷ xs) = let rest = shown_most bs xs in omega arith
  shown_most (false ∷ bs) (x ∷ xs) = let rest = shown_most bs xs in omega arith

  -- where as many are shown as there are, these are all
  pub all_shown : (bs : List Bool) (xs : List X) → length bs ≡ length xs → length (items_where_true bs xs) ≡ length xs
      → items_where_true bs xs ≡ xs
  all_shown [] [] long all = refl
  all_shown [] (x ∷ xs) long all = absurd (omega (arith, long))
  all_shown (b ∷ bs) [] long all = absurd (omega (arith, long))
  all_shown (true ∷ bs) (x ∷ xs) long all = ap (λ ys. x ∷ ys) (all_shown bs xs (omega (arith, long)) (omega (arith, all)))
  all_shown (false ∷ bs) (x ∷ xs) long all = let most = shown_most bs xs in absurd (omega (arith, all, most))

  -- the flag at an index, and what is shown behind it
  shown_at : (bs : List Bool) (xs : List X) (i : ℕ) (d : X) (b : Bool) → length bs ≡ length xs → i < length xs → get_or bs i false ≡ b
      → items_where_true (drop i bs) (drop i xs) ≡ items_where_true (b ∷ drop (i + 1) bs) (get_or xs i d ∷ drop (i + 1) xs)
  shown_at bs xs i d b long inside is =
      let next : suc i ≡ i + 1 = omega arith in
      (λ t. items_where_true (drop-cons bs i false (omega (arith, long, inside)) t) (drop-cons xs i d inside t))
      ∙ (λ t. items_where_true (is t ∷ drop (next t) bs) (get_or xs i d ∷ drop (next t) xs))

  pub shown_here : (bs : List Bool) (xs : List X) (i : ℕ) (d : X) → length bs ≡ length xs → i < length xs → get_or bs i false ≡ true
      → items_where_true (drop i bs) (drop i xs) ≡ get_or xs i d ∷ items_where_true (drop (i + 1) bs) (drop (i + 1) xs)
  shown_here bs xs i d long inside is = shown_at bs xs i d true long inside is

  pub hidden_here : (bs : List Bool) (xs : List X) (i : ℕ) (d : X) → length bs ≡ length xs → i < length xs → get_or bs i false ≡ false
      → items_where_true (drop i bs) (drop i xs) ≡ items_where_true (drop (i + 1) bs) (drop (i + 1) xs)
  hidden_here bs xs i d long inside is = shown_at bs xs i d false long inside is

  -- past the first of some
  pub get_next : (x : X) (xs : List X) (n : ℕ) → (n ≡ 0 → ⊥) → slice_get (x ∷ xs) n ≡ slice_get xs (n - 1)
  get_next x xs zero some = absurd (some refl)
  get_next x xs (suc n) some = ap (slice_get xs) (omega arith)

  -- one flag is set
  pub shown_set : (bs : List Bool) (xs : List X) (i : ℕ) (b c : Bool) → length bs ≡ length xs → slice_get bs i ≡ Some b
      → length (items_where_true (set bs i c) xs) + cond b 1 0 ≡ length (items_where_true bs xs) + cond c 1 0
  shown_set [] xs i b c long is = absurd (cc is)
  shown_set (a ∷ bs) [] i b c long is = absurd (omega (arith, long))
  shown_set (true ∷ bs) (x ∷ xs) zero true true long is = refl
  shown_set (true ∷ bs) (x ∷ xs) zero true false long is = omega arith
  shown_set (true ∷ bs) (x ∷ xs) zero false c long is = absurd (cc is)
  shown_set (false ∷ bs) (x ∷ xs) zero true c long is = absurd (cc is)
  shown_set (false ∷ bs) (x ∷ xs) zero false true long is = omega arith
  shown_set (false ∷ bs) (x ∷ xs) zero false false long is = refl
  shown_set (true ∷ bs) (x ∷ xs) (suc i) b c long is = let rest = shown_set bs xs i b c (omega (arith, long)) is in omega (arith, rest)
  shown_set (false ∷ bs) (x ∷ xs) (suc i) b c long is = shown_set bs xs i b c (omega (arith, long)) is

  -- an item that isn't shown comes in
  pub shown_insert : (bs : List Bool) (xs : List X) (i : ℕ) (x : X) → length bs ≡ length xs
      → items_where_true (insert bs i false) (insert xs i x) ≡ items_where_true bs xs
  shown_insert [] [] zero x long = refl
  shown_insert [] [] (suc i) x long = refl
  shown_insert [] (y ∷ xs) i x long = absurd (omega (arith, long))
  shown_insert (b ∷ bs) [] i x long = absurd (omega (arith, long))
  shown_insert (b ∷ bs) (y ∷ xs) zero x long = refl
  shown_insert (true ∷ bs) (y ∷ xs) (suc i) x long = ap (λ zs. y ∷ zs) (shown_insert bs xs i x (omega (arith, long)))
  shown_insert (false ∷ bs) (y ∷ xs) (suc i) x long = shown_insert bs xs i x (omega (arith, long))

  -- the shown items of two lists
  pub shown_append : (bs cs : List Bool) (xs ys : List X) → length bs ≡ length xs
      → items_where_true (bs ++ cs) (xs ++ ys) ≡ items_where_true bs xs ++ items_where_true cs ys
  shown_append [] cs [] ys long = refl
  shown_append [] cs (x ∷ xs) ys long = absurd (omega (arith, long))
  shown_append (b ∷ bs) cs [] ys long = absurd (omega (arith, long))
  shown_append (true ∷ bs) cs (x ∷ xs) ys long = ap (λ zs. x ∷ zs) (shown_append bs cs xs ys (omega (arith, long)))
  shown_append (false ∷ bs) cs (x ∷ xs) ys long = shown_append bs cs xs ys (omega (arith, long))
