-- Counters in ascending order.
use Rattle.std.specs.Prelude.{ℕ, List}

-- the counters, and for how many more there is room
pub record Risen : Type 0 where
  pub items : List ℕ
  pub room : ℕ
