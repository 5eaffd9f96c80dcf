-- A list that lies in rings: each ring of n slots begins at one of them and wraps around, and after the rings come fewer items than a ring
-- has.
use Rattle.std.specs.Prelude.{◌≡◌, ◌<◌, ◌≤◌, ◌+◌, ◌*◌, ℕ, Bool, true, ◌==◌, ◌&&◌, List, [], ◌∷◌, ◌++◌, length, take, drop, get_or, ◌⊎◌}
use Rattle.std.specs.List.{All}

-- a list, and how many more items fit without allocating
pub record Sequence (X : Type 0) : Type 0 where
  pub items : List X
  pub room : ℕ
  -- each ring begins at its first slot
  pub is_straight : Bool

-- all are 0
abbrev pub are_zero : List ℕ → Bool
are_zero [] = true
are_zero (s ∷ ss) = (s == 0) && are_zero ss

-- a ring from the slot on at which it begins
abbrev pub turned : {X : Type 0} → ℕ → List X → List X
turned start ring = drop start ring ++ take start ring

-- the rings of n slots one after the other, each from where it begins, and what comes after them
abbrev pub straight : {X : Type 0} → ℕ → List ℕ → List X → List X
straight n [] xs = xs
straight n (s ∷ starts) xs = turned s (take n xs) ++ straight n starts (drop n xs)

-- the slot of a position: a position in a ring lies that far behind the ring's start, and wraps around; one behind the rings is its own
-- slot
pub record IsSlot (n : ℕ) (starts : List ℕ) (position slot : ℕ) : Type 0 where
  pub inside : (k o : ℕ) → k < length starts → o < n → position ≡ k * n + o
      → (w : ℕ) × (w < n)
      × (((get_or starts k 0 + o < n) × (w ≡ get_or starts k 0 + o)) ⊎ ((n ≤ get_or starts k 0 + o) × (w + n ≡ get_or starts k 0 + o)))
      × (slot ≡ k * n + w)
  pub past : length starts * n ≤ position → slot ≡ position

-- this many slots are full rings that begin at these starts, and then fewer items than a ring has
pub record AreRings (n : ℕ) (starts : List ℕ) (count : ℕ) : Type 0 where
  pub within : All (λ s. s < n) starts
  pub full : length starts * n ≤ count
  pub rest : count < length starts * n + n

-- where the items behind the rings are enough for a ring, they are one more, which begins at its first slot
abbrev pub IsClosed : ℕ → List ℕ → List ℕ → ℕ → Type 0
IsClosed n old new count = ((count < length old * n + n) × (new ≡ old)) ⊎ ((count ≡ length old * n + n) × (new ≡ old ++ 0 ∷ []))
