-- Where the rings of a list begin.
use Rattle.std.specs.Prelude.{ℕ, List, [], option_map, unwrap_or}
use Rattle.std.specs.Vec.{vec_capacity}
use Rattle.rings.specs.declared.starts.Starts.{Starts}

-- the starts, of which there are none before there was room for one
abbrev pub starts_of : Starts → List ℕ
starts_of s = unwrap_or (option_map (λ b. b.value.items) s.starts) []

-- how many starts fit without allocating
abbrev pub capacity_of : Starts → ℕ
capacity_of s = unwrap_or (option_map (λ b. vec_capacity b.value) s.starts) 0
