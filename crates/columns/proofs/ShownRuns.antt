-- What is shown, sixteen flags at a time.
use Rattle.std.proofs.Common.{◌≡◌, ap, sym, ◌∙◌, ℕ, ◌+◌, ◌-◌, ◌<◌, ◌≤◌, Bool, List, ◌++◌, length, take, drop, slice_get, min, arith}
use Rattle.std.proofs.Common.{length-take}
use Rattle.std.proofs.Common.{append_assoc}
use Rattle.std.specs.List.{items_where_true}
use Rattle.std.proofs.lemmas.List.{drop-drop, length-drop, take-append-drop}
use Rattle.columns.proofs.Flags.{shown_append}
use Rattle.columns.proofs.Walked.{get_in, get_past}

-- what is shown among the first, and then among the others
shown_run : {X : Type 0} (bs : List Bool) (xs : List X) (n : ℕ) → length bs ≡ length xs
    → items_where_true bs xs ≡ items_where_true (take n bs) (take n xs) ++ items_where_true (drop n bs) (drop n xs)
shown_run bs xs n long =
    (λ t. items_where_true (sym (take-append-drop n bs) t) (sym (take-append-drop n xs) t))
    ∙ shown_append (take n bs) (drop n bs) (take n xs) (drop n xs)
    (length-take n bs ∙ ap (min n) long ∙ sym (length-take n xs))

-- n flags further
module _ {X : Type 0} (bs : List Bool) (xs : List X) (i n : ℕ) (long : length bs ≡ length xs) where
  split : items_where_true (drop i bs) (drop i xs)
      ≡ items_where_true (take n (drop i bs)) (take n (drop i xs)) ++ items_where_true (drop n (drop i bs)) (drop n (drop i xs))
  split = shown_run (drop i bs) (drop i xs) n (length-drop i bs ∙ ap (λ k. k - i) long ∙ sym (length-drop i xs))

  pub found_in_run : (left shown : ℕ) → shown ≡ length (items_where_true (take n (drop i bs)) (take n (drop i xs))) → left < shown
      → slice_get (items_where_true (drop i bs) (drop i xs)) left
      ≡ slice_get (items_where_true (take n (drop i bs)) (take n (drop i xs))) left
  found_in_run left shown counted lt = ap (λ zs. slice_get zs left) split
      ∙ get_in (items_where_true (take n (drop i bs)) (take n (drop i xs))) _ left (omega (arith, lt, counted))

  pub past_run : (j left shown : ℕ) → j ≡ i + n → shown ≡ length (items_where_true (take n (drop i bs)) (take n (drop i xs)))
      → shown ≤ left
      → slice_get (items_where_true (drop i bs) (drop i xs)) left
      ≡ slice_get (items_where_true (drop j bs) (drop j xs)) (left - shown)
  past_run j left shown is counted le = ap (λ zs. slice_get zs left) split
      ∙ get_past (items_where_true (take n (drop i bs)) (take n (drop i xs))) _ left (omega (arith, le, counted))
      ∙ (λ t. slice_get (items_where_true ((drop-drop n i bs ∙ ap (λ k. drop k bs) (sym is)) t)
      ((drop-drop n i xs ∙ ap (λ k. drop k xs) (sym is)) t)) (left - sym counted t))

  -- with what was pushed before
  pub pushed_run : (j : ℕ) → j ≡ i + n → (old now all : List X)
      → now ≡ old ++ items_where_true (take n (drop i bs)) (take n (drop i xs))
      → old ++ items_where_true (drop i bs) (drop i xs) ≡ all
      → now ++ items_where_true (drop j bs) (drop j xs) ≡ all
  pushed_run j is old now all pushed before =
      (λ t. pushed t
      ++ items_where_true ((ap (λ k. drop k bs) is ∙ sym (drop-drop n i bs)) t) ((ap (λ k. drop k xs) is ∙ sym (drop-drop n i xs)) t))
      ∙ append_assoc old (items_where_true (take n (drop i bs)) (take n (drop i xs))) _
      ∙ ap (λ zs. old ++ zs) (sym split) ∙ before
