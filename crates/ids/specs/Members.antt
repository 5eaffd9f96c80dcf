-- Lists of replica numbers.
use Rattle.std.specs.Prelude.{ℕ, Bool, true, cond, not, ◌&&◌, ◌==◌, nat_lt, ⊤, IsTrue, List, [], ◌∷◌}
use Rattle.std.specs.List.{list_any}

-- p is one of these numbers
abbrev pub is_member : List ℕ → ℕ → Bool
is_member ps p = list_any (λ q. q == p) ps

-- no number occurs twice
abbrev pub AreDistinct : List ℕ → Type 0
AreDistinct [] = ⊤
AreDistinct (p ∷ ps) = (IsTrue (is_member ps p) → ⊥) × AreDistinct ps

-- the same, as a test
abbrev pub are_distinct : List ℕ → Bool
are_distinct [] = true
are_distinct (p ∷ ps) = not (is_member ps p) && are_distinct ps

-- p goes before the first that is greater
abbrev pub put_number : ℕ → List ℕ → List ℕ
put_number p [] = p ∷ []
put_number p (q ∷ ps) = cond (nat_lt p q) (p ∷ q ∷ ps) (q ∷ put_number p ps)

-- the numbers of both, in ascending order if the first are
abbrev pub put_all : List ℕ → List ℕ → List ℕ
put_all table [] = table
put_all table (p ∷ ps) = put_all (put_number p table) ps

-- the numbers, in ascending order
abbrev pub in_order : List ℕ → List ℕ
in_order ps = put_all [] ps
