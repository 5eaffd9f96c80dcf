-- The positions between which a binary search looks for a key among keys in ascending order.
use Rattle.std.proofs.Common.{◌≡◌, ℕ, ◌+◌, ◌<◌, ◌≤◌, IsTrue, List, length, get_or, ap, ◌∙◌, arith}
use Rattle.std.specs.declared.cmp.Ordering.{Ordering}
use Rattle.std.specs.declared.cmp.Ordering.TheVariants.{Less, Equal, Greater}
use Rattle.std.specs.Ordering.{is_gt}
use Rattle.std.specs.Cmp.{IsTotalOrder}
use Rattle.std.specs.FinMap.{is_sorted}
use Rattle.columns.specs.Rank.{GoesTo, StandsAt, as_set, rank}
use Rattle.columns.proofs.Ranks.{goes_here, rank_above, rank_in, rank_le, stands_here}

-- k belongs between the positions, and the key at the upper one is greater
pub record IsSought {K : Type 0} (R : K → K → Ordering) (k : K) (xs : List K) (low high : ℕ) : Type 0 where
  pub above : low ≤ rank R k xs
  pub below : rank R k xs ≤ high
  pub within : high ≤ length xs
  pub next : (d : K) → high < length xs → R k (get_or xs high d) ≡ Less

module _ {K : Type 0} (R : K → K → Ordering) (k : K) (xs : List K) where
  -- at first it may be anywhere
  pub sought_in : (n : ℕ) → n ≡ length xs → IsSought R k xs 0 n
  sought_in n all =
      let most = rank_in R k xs in
      record { above = omega arith; below = omega arith; within = omega arith; next = λ d h. absurd (omega arith) }

  module _ (low high i : ℕ) (x : K) (s : IsSought R k xs low high) (inside : i < high) (at : (d : K) → get_or xs i d ≡ x) where
    -- before a greater one
    pub sought_before : R k x ≡ Less → IsSought R k xs low i
    sought_before less =
        let most = s.within in
        let is : (d : K) → R k (get_or xs i d) ≡ Less = λ d. ap (R k) (at d) ∙ less in
        record {
          above = s.above;
          below = rank_le R k xs i x (omega (arith, inside, most)) (ap is_gt (is x));
          within = omega (arith, inside, most);
          next = λ d h. is d;
        }

    module _ (o : IsTotalOrder R) (rising : IsTrue (is_sorted R (as_set xs))) where
      -- behind a smaller one
      pub sought_behind : R k x ≡ Greater → IsSought R k xs (i + 1) high
      sought_behind greater =
          let most = s.within in
          let passed = rank_above R o k xs i x rising (omega (arith, inside, most)) (ap (R k) (at x) ∙ greater) in
          record {
            above = omega (arith, passed);
            below = s.below;
            within = most;
            next = s.next;
          }

      -- at the one that ties
      pub sought_here : R k x ≡ Equal → StandsAt R k xs i
      sought_here ties =
          let most = s.within in
          stands_here R o k xs i x rising (omega (arith, inside, most)) (ap (R k) (at x) ∙ ties)

  -- between neighbours
  pub sought_nowhere : (low high : ℕ) → IsSought R k xs low high → high ≤ low → IsTotalOrder R → IsTrue (is_sorted R (as_set xs))
      → GoesTo R k xs low
  sought_nowhere low high s none o rising =
      let least = s.above in
      let most = s.below in
      let same : low ≡ high = omega (arith, none, least, most) in
      goes_here R o k xs low k rising (omega (arith, none, least, most))
      (λ h. ap (λ i. R k (get_or xs i k)) same ∙ s.next k (omega (arith, h, same)))
