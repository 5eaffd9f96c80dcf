-- Marks for replicas, one for all whose numbers leave the same remainder.
use Rattle.std.specs.Prelude.{ℕ, ◌%◌, Bool, false, IsTrue, List, get_or}
use Rattle.ids.specs.Members.{is_member}

-- whether the replica's mark is set
abbrev pub is_set : List Bool → ℕ → Bool
is_set marks p = get_or marks (p % 256) false

-- each of these replicas has a mark
abbrev pub AreMarked : List Bool → List ℕ → Type 0
AreMarked marks ps = (p : ℕ) → IsTrue (is_member ps p) → IsTrue (is_set marks p)
