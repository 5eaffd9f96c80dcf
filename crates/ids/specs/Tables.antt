-- What holds of every table of replicas.
use Rattle.std.specs.Prelude.{◌≡◌, ℕ, suc, ◌≤◌, not, ◌&&◌, cond, Bool, nat_le, List, [], ◌∷◌, ◌++◌, length, Some, slice_get}
use Rattle.ids.specs.Members.{AreDistinct, is_member}
use Rattle.ids.specs.Vectors.{IsCanonical, Vector, at, most_named}

-- a table: the numbers of the replicas, in the order of their indices, and for how many more there is room
pub record Table : Type 0 where
  pub numbers : List ℕ
  pub room : ℕ

-- p goes behind the others, unless it is there
abbrev pub joined : ℕ → List ℕ → List ℕ
joined p ps = cond (is_member ps p) ps (ps ++ p ∷ [])

-- p isn't in the table, and doesn't fit in
abbrev pub lacks_room : List ℕ → ℕ → Bool
lacks_room ps p = not (is_member ps p) && nat_le most_named (length ps)

-- no number occurs twice, there are at most 256, and the vector names for each its index plus 1, and nothing else
pub record IsTable (numbers : List ℕ) (places : Vector) : Type 0 where
  pub distinct : AreDistinct numbers
  pub few : length numbers ≤ most_named
  pub canonical : IsCanonical places
  pub placed : (k p : ℕ) → slice_get numbers k ≡ Some p → at places p ≡ suc k
  pub there : (k p : ℕ) → at places p ≡ suc k → slice_get numbers k ≡ Some p
