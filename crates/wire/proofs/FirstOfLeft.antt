-- An iterator whose model is the list of what is left returns its first pair, and gets shorter.
use Rattle.std.proofs.Common.{◌≡◌, ℕ, ◌<◌, ◌≤◌, true, false, Some, ◌∷◌, length, ap, arith, tests}
use Rattle.std.specs.Bool.{⊤}
use Rattle.std.specs.Iterator.{MakesProgress, item_count}
use Rattle.std.specs.Ordering.{is_lt, nat_cmp}
use Rattle.semantics.specs.Ids.{OpId}
use Rattle.semantics.specs.Vectors.{Vector}

pub progress : (x : OpId) (old new : Vector) → old ≡ x ∷ new
    → MakesProgress {S = Vector} {A = OpId} (λ _. ⊤) (item_count {S = Vector} {A = OpId} (λ left. left)) old (Some x) new
progress x old new e = record { on = λ _. (tt, tt, (let l = ap length e in omega (arith, l))); keeps = tt; rests = λ _. tt }

pub below : (m n : ℕ) → is_lt (nat_cmp m n) ≡ true → m < n
below m n e = grind (arith, tests, e)

pub not_below : (m n : ℕ) → is_lt (nat_cmp m n) ≡ false → n ≤ m
not_below m n e = grind (arith, tests, e)
