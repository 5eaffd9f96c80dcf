-- The bytes of a store, if it says which it has.
use Rattle.std.specs.Prelude.{◌≡◌, ◌≤◌, ℕ, Bool, false, List, length, take, Option, IfSome, option_map}
use Rattle.std.specs.Io.KnownBytes.{append_known}

-- the known bytes, and then the first bytes of bs, none to all of them
abbrev pub AppendsSome : Option (List ℕ) → Option (List ℕ) → Type 0
AppendsSome old new = (more : List ℕ) × (new ≡ append_known old more)

-- the known bytes are these
abbrev pub AreKnown : Option (List ℕ) → List ℕ → Type 0
AreKnown known bs = known ≡ option_map (λ xs. bs) known

-- the first n known bytes
abbrev pub first_known : (n : ℕ) → Option (List ℕ) → Option (List ℕ)
first_known n known = option_map (λ xs. take n xs) known

-- the known bytes are at most n
abbrev pub AreWithin : Option (List ℕ) → (n : ℕ) → Type 0
AreWithin known n = IfSome known (λ xs. length xs ≤ n)

-- what a store has, what of it survives a loss of power, and whether it is lost from sight
pub record Shelf : Type 0 where
  pub held : Option (List ℕ)
  pub synced : Option (List ℕ)
  pub is_lost : Bool

-- what it has is n bytes, and survives
pub record IsInSight (n : ℕ) (held synced : Option (List ℕ)) : Type 0 where
  pub long : IfSome held (λ xs. length xs ≡ n)
  pub survives : synced ≡ held

-- a shelf whose store has n bytes, as far as it knows
abbrev pub IsShelf : (n : ℕ) → Shelf → Type 0
IsShelf n s = s.is_lost ≡ false → IsInSight n s.held s.synced
