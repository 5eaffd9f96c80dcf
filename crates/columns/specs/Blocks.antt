-- The order of a list as blocks of neighbouring items.
use Rattle.std.specs.Prelude.{◌≡◌, ◌≤◌, ◌<◌, ◌-◌, ◌≢◌, ℕ, zero, suc, Bool, true, false, cond, IsFalse, List, [], ◌∷◌, ◌++◌, length, take}
use Rattle.std.specs.Prelude.{drop, Option, Some, None, slice_get}
use Rattle.std.specs.List.{All, items_where_true}
use Rattle.std.specs.FinMap.{find}
use Rattle.semantics.specs.Ids.{OpId, id_cmp, is_smaller_id}
use Rattle.semantics.specs.Context.{skip, insert_after, has_item}
use Rattle.columns.specs.Rank.{has_key, keys_of}
use Rattle.columns.specs.declared.walks.Position.{Position}

-- a block
pub record ListBlock : Type 0 where
  -- by which its items refer to it
  pub number : ℕ
  -- in list order
  pub items : List OpId
  -- for each item whether it is shown
  pub flags : List Bool
  -- for how many more there is room
  pub room : ℕ

-- the items of all blocks
abbrev pub joined : List ListBlock → List OpId
joined [] = []
joined (r ∷ rs) = r.items ++ joined rs

-- those of them that are shown
abbrev pub joined_shown : List ListBlock → List OpId
joined_shown [] = []
joined_shown (r ∷ rs) = items_where_true r.flags r.items ++ joined_shown rs

-- the items before a position, which is that of a block and an index in it
abbrev pub items_before : List ListBlock → ℕ → ℕ → List OpId
items_before [] block index = []
items_before (r ∷ rs) zero index = take index r.items
items_before (r ∷ rs) (suc block) index = r.items ++ items_before rs block index

-- the items from a position on
abbrev pub items_from : List ListBlock → ℕ → ℕ → List OpId
items_from [] block index = []
items_from (r ∷ rs) zero index = drop index r.items ++ joined rs
items_from (r ∷ rs) (suc block) index = items_from rs block index

-- none of the items is smaller than a
abbrev pub AreGreater : OpId → List OpId → Type 0
AreGreater a items = All (λ x. IsFalse (is_smaller_id x a)) items

-- none of the items is smaller than the floor; without one there are no items
abbrev pub IsFloor : Option OpId → List OpId → Type 0
IsFloor None items = items ≡ []
IsFloor (Some least) items = AreGreater least items

-- what a block keeps of its items
pub record IsBlock (items : List OpId) (flags : List Bool) (shown : ℕ) (floor : Option OpId) : Type 0 where
  pub long : length flags ≡ length items
  pub counted : shown ≡ length (items_where_true flags items)
  pub bounded : IsFloor floor items

-- a stands at the index, and not before it
pub record StandsFirst (a : OpId) (items : List OpId) (index : ℕ) : Type 0 where
  pub there : slice_get items index ≡ Some a
  pub first : has_item a (take index items) ≡ false

-- the first index at which a stands, if it does
abbrev pub IsPositionOf : OpId → List OpId → Option ℕ → Type 0
IsPositionOf a items None = has_item a items ≡ false
IsPositionOf a items (Some index) = StandsFirst a items index

-- Where a new item a, which comes in at `from`, goes in a block, whatever items follow the block: past each one that isn't smaller
abbrev pub IsFirstSmaller : OpId → List OpId → ℕ → Option ℕ → Type 0
IsFirstSmaller a items from None = (rest : List OpId) → take from items ++ skip a (drop from items ++ rest) ≡ items ++ skip a rest
IsFirstSmaller a items from (Some index) = (index < length items)
    × ((rest : List OpId) → take from items ++ skip a (drop from items ++ rest) ≡ take index items ++ (a ∷ (drop index items ++ rest)))

-- no item occurs twice
abbrev pub AreApart : List OpId → Type 0
AreApart [] = Unit {0}
AreApart (a ∷ rest) = (has_item a rest ≡ false) × AreApart rest

-- each item has the number of its block as its home
abbrev pub AreHomed : List (OpId × ℕ) → List ListBlock → Type 0
AreHomed homes runs = (block : ℕ) (r : ListBlock) → slice_get runs block ≡ Some r → (a : OpId) → has_item a r.items ≡ true
    → find id_cmp a homes ≡ Some r.number

-- the items have their homes, and no other id has one
pub record AreHomes (runs : List ListBlock) (homes : List (OpId × ℕ)) : Type 0 where
  pub homed : AreHomed homes runs
  pub only : (a : OpId) → has_key id_cmp a (keys_of homes) ≡ has_item a (joined runs)

-- for how many more items the block has room
abbrev pub room_at : List ListBlock → ℕ → ℕ
room_at [] block = 0
room_at (r ∷ rs) zero = r.room
room_at (r ∷ rs) (suc block) = room_at rs block

-- the items of a block
abbrev pub items_at : List ListBlock → ℕ → List OpId
items_at [] block = []
items_at (r ∷ rs) zero = r.items
items_at (r ∷ rs) (suc block) = items_at rs block

-- blocks of different items, with their homes; the last one written to may be full, and no other one
pub record AreBlocks (runs : List ListBlock) (homes : List (OpId × ℕ)) (last : ℕ) : Type 0 where
  pub long : (block : ℕ) (r : ListBlock) → slice_get runs block ≡ Some r → length r.flags ≡ length r.items
  pub at_home : AreHomes runs homes
  pub apart : AreApart (joined runs)
  pub within : last ≤ length runs - 1
  pub spare : (block : ℕ) (r : ListBlock) → slice_get runs block ≡ Some r → block ≢ last → 0 < r.room

-- the indices of blocks by their numbers, and for how many more there is room
pub record Indices : Type 0 where
  pub by_number : List ℕ
  pub room : ℕ

-- each block's index stands at its number, and there is no other number
pub record AreIndexed (runs : List ListBlock) (indices : List ℕ) : Type 0 where
  pub paired : length indices ≡ length runs
  pub within : All (λ k. k < length runs) indices
  pub indexed : (block : ℕ) (r : ListBlock) → slice_get runs block ≡ Some r → slice_get indices r.number ≡ Some block

-- a block was inserted at this index: those before it stay, and the others move one further
pub record AreMovedOn (old : List ℕ) (index : ℕ) (new : List ℕ) : Type 0 where
  pub long : length new ≡ length old
  pub kept : (number k : ℕ) → slice_get old number ≡ Some k → k < index → slice_get new number ≡ Some k
  pub moved : (number k : ℕ) → slice_get old number ≡ Some k → index ≤ k → slice_get new number ≡ Some (suc k)

-- and the new block has the next number
pub record IsMadeAt (old : List ℕ) (index : ℕ) (new : List ℕ) : Type 0 where
  pub moved : List ℕ
  pub on : AreMovedOn old index moved
  pub made : new ≡ moved ++ index ∷ []

-- a stands there, and not before
pub record StandsAt (runs : List ListBlock) (a : OpId) (block index : ℕ) : Type 0 where
  pub inside : block < length runs
  pub there : slice_get (items_at runs block) index ≡ Some a
  pub first : has_item a (items_before runs block 0) ≡ false
  pub first_in : has_item a (take index (items_at runs block)) ≡ false

-- the position of an item, if it is one
abbrev pub IsFound : List ListBlock → OpId → Option Position → Type 0
IsFound runs a None = has_item a (joined runs) ≡ false
IsFound runs a (Some at) = StandsAt runs a at.block at.index

-- what goes in after an item, or after the head, comes in at this position
pub record IsBehind (runs : List ListBlock) (item : Option OpId) (block index : ℕ) : Type 0 where
  pub inserts : (a : OpId) → insert_after item a (joined runs) ≡ items_before runs block index ++ skip a (items_from runs block index)
  pub within : block < length runs → index ≤ length (items_at runs block)
  pub inside : 0 < length runs → block < length runs

-- a goes to this position if it comes in at the other one
pub record GoesIn (runs : List ListBlock) (a : OpId) (from_block from_index block index : ℕ) : Type 0 where
  pub inside : block < length runs
  pub within : index ≤ length (items_at runs block)
  pub same : items_before runs from_block from_index ++ skip a (items_from runs from_block from_index)
      ≡ items_before runs block index ++ (a ∷ items_from runs block index)

-- in a map of homes the items have this number, and others stay
abbrev pub AreMoved : List OpId → ℕ → List (OpId × ℕ) → List (OpId × ℕ) → Type 0
AreMoved items number old new = (a : OpId) → find id_cmp a new ≡ cond (has_item a items) (Some number) (find id_cmp a old)

-- the same list, with no less room in the last block
pub record IsSameList (old new : List ListBlock) (homes : List (OpId × ℕ)) (last : ℕ) : Type 0 where
  pub blocks : AreBlocks new homes last
  pub items : joined new ≡ joined old
  pub shown : joined_shown new ≡ joined_shown old
  pub kept : room_at old last ≤ room_at new last
