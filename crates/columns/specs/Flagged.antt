-- Keys with numbers and flags.
use Rattle.std.specs.Prelude.{ℕ, Bool, List, [], Option, Some, None}

-- flags in a row
pub record Row : Type 0 where
  pub flags : List Bool
  -- for how many more there is room
  pub room : ℕ

-- a finite map to numbers, and one of the same keys to flags
pub record Flagged (K : Type 0) : Type 0 where
  -- each key with its number, in ascending order of key
  pub entries : List (K × ℕ)
  -- each key with its flag, in ascending order of key
  pub flags : List (K × Bool)
  -- for how many more keys there is room
  pub room : ℕ

-- where there is no map, an empty one with no room
abbrev pub flagged_or_empty : {K : Type 0} → Option (Flagged K) → Flagged K
flagged_or_empty None = record { entries = []; flags = []; room = 0 }
flagged_or_empty (Some map) = map
