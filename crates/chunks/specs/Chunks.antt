-- A list that lies in chunks.
use Rattle.std.specs.Prelude.{◌≡◌, ◌<◌, ◌≤◌, ◌+◌, ℕ, zero, suc, List, [], ◌∷◌, ◌++◌, length, slice_get, slice_index_or}
use Rattle.std.specs.Prelude.{Option, option_map, unwrap_or}
use Rattle.chunks.specs.declared.ends.Spot.{Spot}

-- a list, and how many more items fit without allocating
pub record Sequence (X : Type 0) : Type 0 where
  pub items : List X
  pub room : ℕ

-- where the chunks of a list end, and for how many more there is room
pub record EndsOf : Type 0 where
  pub ends : List ℕ
  pub room : ℕ

-- the items of all chunks
abbrev pub joined : {X : Type 0} → List (Sequence X) → List X
joined [] = []
joined (c ∷ cs) = c.items ++ joined cs

-- where each chunk ends, if the first begins at this position
abbrev pub ends_from : {X : Type 0} → ℕ → List (Sequence X) → List ℕ
ends_from start [] = []
ends_from start (c ∷ cs) = (start + length c.items) ∷ ends_from (start + length c.items) cs

-- where a chunk begins: where the one before it ends
abbrev pub start_of : List ℕ → ℕ → ℕ
start_of ends zero = 0
start_of ends (suc chunk) = slice_index_or ends chunk 0

-- the chunk in which a position is, and the index in it
pub record IsSpot (ends : List ℕ) (position : ℕ) (spot : Spot) : Type 0 where
  pub inside : spot.chunk < length ends
  pub here : start_of ends spot.chunk + spot.index ≡ position
  pub before : position < slice_index_or ends spot.chunk 0

-- these items stand in a list one after another, from a position on
abbrev pub IsPart : {X : Type 0} → List X → ℕ → List X → Type 0
IsPart list start items = (i : ℕ) → i < length items → slice_get list (start + i) ≡ slice_get items i

-- a position is that of one of these items, the first of which stands at `start`
pub record IsIn {X : Type 0} (position start : ℕ) (items : List X) : Type 0 where
  pub from : start ≤ position
  pub before : position < start + length items

-- each chunk has room for one more item
abbrev pub AreRoomy : {X : Type 0} → List (Sequence X) → Type 0
AreRoomy [] = Unit {0}
AreRoomy (c ∷ cs) = (0 < c.room) × AreRoomy cs

-- each chunk but one has room for one more item
abbrev pub AreRoomyBut : {X : Type 0} → ℕ → List (Sequence X) → Type 0
AreRoomyBut full [] = Unit {0}
AreRoomyBut zero (c ∷ cs) = AreRoomy cs
AreRoomyBut (suc full) (c ∷ cs) = (0 < c.room) × AreRoomyBut full cs

-- for how many more items a chunk has room, and for one if there is no such chunk
abbrev pub room_at : {X : Type 0} → List (Sequence X) → ℕ → ℕ
room_at [] chunk = 1
room_at (c ∷ cs) zero = c.room
room_at (c ∷ cs) (suc chunk) = room_at cs chunk

-- what is before the last chunk, if there is anything
abbrev pub items_before : {X : Type 0} → Option (Sequence X) → List X
items_before front = unwrap_or (option_map (λ f. f.items) front) []

-- for how many more items there is room before the last chunk
abbrev pub room_before : {X : Type 0} → Option (Sequence X) → ℕ
room_before front = unwrap_or (option_map (λ f. f.room) front) 1
