-- Vectors as columns of counters indexed by a table of replica numbers.
use Rattle.std.specs.Prelude.{ℕ, max, Bool, true, false, cond, ◌&&◌, ◌==◌, nat_le, List, [], ◌∷◌}
use Rattle.semantics.specs.Ids.{id_at}
use Rattle.semantics.specs.Vectors.{Vector, raise}

-- the counter of a replica, 0 where there is none
abbrev pub component : List ℕ → List ℕ → ℕ → ℕ
component [] cs p = 0
component (q ∷ ps) [] p = 0
component (q ∷ ps) (c ∷ cs) p = cond (q == p) c (component ps cs p)

-- the greatest counter of a column
abbrev pub greatest_in : List ℕ → ℕ
greatest_in [] = 0
greatest_in (c ∷ cs) = max c (greatest_in cs)

-- each counter is at most the one at the same index
abbrev pub all_at_most : List ℕ → List ℕ → Bool
all_at_most [] ds = true
all_at_most (c ∷ cs) [] = false
all_at_most (c ∷ cs) (d ∷ ds) = nat_le c d && all_at_most cs ds

-- the vector that names each replica whose counter isn't 0
abbrev pub by_table : List ℕ → List ℕ → Vector
by_table [] cs = []
by_table (p ∷ ps) [] = []
by_table (p ∷ ps) (c ∷ cs) = cond (c == 0) (by_table ps cs) (raise (id_at c p) (by_table ps cs))
