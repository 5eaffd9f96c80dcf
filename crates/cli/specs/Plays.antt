-- What a bench prints, and the statuses with which it ends.
use Rattle.std.specs.Prelude.{◌≡◌, ◌⊎◌, ◌++◌, ℕ, List, codes, decimal}

-- done, differ, turn limit, no memory, or not written
abbrev pub IsBenchStatus : ℕ → Type 0
IsBenchStatus status = (status ≡ 0) ⊎ (status ≡ 1) ⊎ (status ≡ 3) ⊎ (status ≡ 4) ⊎ (status ≡ 5)

-- the line that says how many replicas show how many operations
abbrev pub agreement : ℕ → ℕ → List ℕ
agreement replicas operations = codes "agree "
    ++ (decimal replicas ++ (codes " replicas " ++ (decimal operations ++ codes " operations\n")))

-- the line that says that what was read differs from what was written, or from what another replica shows
abbrev pub difference : List ℕ
difference = codes "differ\n"

-- the line that says that a thread waited for too long
abbrev pub limit : List ℕ
limit = codes "turn limit\n"
