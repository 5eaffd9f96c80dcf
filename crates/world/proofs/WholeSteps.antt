-- The takes and gives of a whole step, one by one.
use Rattle.std.proofs.Common.{◌≡◌, ℕ, zero, suc, ◌-◌, ◌+◌, ◌<◌, ◌==◌, true, false, List, [], ◌∷◌, length, map, refl, ap, ◌∙◌}
use Rattle.std.proofs.Common.{arith}
use Rattle.semantics.specs.DocumentAnswer.{is_any}
use Rattle.semantics.specs.Engine.{Engine}
use Rattle.semantics.specs.WriteSteps.{take_oldest, take_submission, take_for, give, give_for}

-- ---- tests

pub not_zero : (n : ℕ) → (n == 0) ≡ false → n ≡ 0 → ⊥
not_zero zero e z = absurd (let h = e in cc)
not_zero (suc n) e z = omega arith

pub none_mapped : {A B : Type 0} (f : A → B) (xs : List A) → length xs ≡ 0 → is_any (map f xs) ≡ false
none_mapped f [] e = refl
none_mapped f (x ∷ xs) e = absurd (omega arith)

pub some_mapped : {A B : Type 0} (f : A → B) (xs : List A) → (length xs ≡ 0 → ⊥) → is_any (map f xs) ≡ true
some_mapped f [] some = absurd (some refl)
some_mapped f (x ∷ xs) some = refl

-- ---- takes and gives

-- nothing is taken from an empty queue
pub take_none : (n : ℕ) (E : Engine) → E.queue ≡ [] → take_for n E ≡ E
take_none zero E e = refl
take_none (suc n) E e = ap (take_for n) (ap (λ queue. (take_oldest E queue).engine) e) ∙ take_none n E e

pub take_next : (n i : ℕ) (E : Engine) → i < n → take_for (n - (i + 1)) (take_submission E).engine ≡ take_for (n - i) E
take_next n i E l = ap (λ k. take_for k E) (sym_one)
  where
    sym_one : suc (n - (i + 1)) ≡ n - i
    sym_one = omega arith

pub give_next : (n i : ℕ) (E : Engine) → i < n → give_for (n - (i + 1)) (give E).engine ≡ give_for (n - i) E
give_next n i E l = ap (λ k. give_for k E) (sym_one)
  where
    sym_one : suc (n - (i + 1)) ≡ n - i
    sym_one = omega arith
