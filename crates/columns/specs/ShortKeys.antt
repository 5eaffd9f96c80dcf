-- What stands for keys in byte order.
use Rattle.std.specs.Prelude.{◌≡◌, ◌<◌, ℕ, List, [], length, map, Some, slice_get, slice_index_or}
use Rattle.semantics.specs.Elements.{Name}
use Rattle.columns.specs.Prefix.{AreBytes, first_bytes}
use Rattle.columns.specs.declared.sorted_keys.ShortKey.{ShortKey}

-- how many keys were put before each one
abbrev pub numbers_of : List ShortKey → List ℕ
numbers_of order = map (λ s. s.number) order

-- the first eight bytes of each one
abbrev pub prefixes_of : List ShortKey → List ℕ
prefixes_of order = map (λ s. s.prefix) order

-- there is a key at a position, made of bytes, and this stands for it: it has its number and its first eight bytes
pub record StandsFor (keys : List Name) (numbers : List ℕ) (position : ℕ) (short : ShortKey) : Type 0 where
  pub within : position < length keys
  pub number : slice_get numbers position ≡ Some short.number
  pub prefix : short.prefix ≡ first_bytes 8 (slice_index_or keys position [])
  pub bytes : AreBytes (slice_index_or keys position [])
