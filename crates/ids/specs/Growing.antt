-- What contracts see of a vector that grows.
use Rattle.std.specs.Prelude.{ℕ}
use Rattle.ids.specs.Vectors.{Vector}

-- the pairs, and for how many more replicas there is room
pub record Growing : Type 0 where
  pub ids : Vector
  pub room : ℕ
