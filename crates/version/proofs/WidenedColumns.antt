-- A column that was to become wider, and did, or stayed.
use Rattle.std.proofs.Common.{◌≡◌, ℕ, ◌≤◌, ◌-◌, ◌+◌, ◌++◌, List, length, replicate, Result, Ok, Err, ap, ◌∙◌, arith}
use Rattle.std.specs.Prelude.{OnOk, OnErr}
use Rattle.std.proofs.lemmas.List.{length-append, length-replicate}

module _ (width : ℕ) (old new : List ℕ) where
  length_widened : new ≡ old ++ replicate (width - length old) 0 → length new ≡ length old + (width - length old)
  length_widened is = ap length is ∙ length-append old (replicate (width - length old) 0)
      ∙ ap (λ n. length old + n) (length-replicate (width - length old) 0)

  pub wide_enough : new ≡ old ++ replicate (width - length old) 0 → width ≤ length new
  wide_enough is = (let n = length_widened is in omega (arith, n))

  pub no_narrower : {X E : Type 0} (r : Result X E) → OnOk r (new ≡ old ++ replicate (width - length old) 0) → OnErr r (new ≡ old)
      → length old ≤ length new
  no_narrower (Ok x) is same = (let n = length_widened is in omega (arith, n))
  no_narrower (Err e) is same = (let n = ap length same in omega (arith, n))
