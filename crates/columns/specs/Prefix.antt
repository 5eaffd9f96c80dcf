-- The first eight bytes of a name, as a number.
use Rattle.std.specs.Prelude.{◌≡◌, ◌<◌, ◌+◌, ◌*◌, ℕ, zero, suc, List, map, slice_index_or}
use Rattle.std.specs.List.{All}
use Rattle.semantics.specs.Elements.{Name}

-- the first `count` bytes, the first of them the highest; a byte past the end is 0
abbrev pub first_bytes : ℕ → Name → ℕ
first_bytes zero name = 0
first_bytes (suc i) name = first_bytes i name * 256 + slice_index_or name i 0

-- each is a byte, as in the names of keys
abbrev pub AreBytes : Name → Type 0
AreBytes name = All (λ b. b < 256) name

-- the prefix of each name
pub record ArePrefixes (names : List Name) (prefixes : List ℕ) : Type 0 where
  pub paired : prefixes ≡ map (first_bytes 8) names
  pub bytes : All AreBytes names
