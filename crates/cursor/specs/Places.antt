-- Places by their paths from the root. The head of a list is a key of its own, after those that lead to the list.
use Rattle.std.specs.Prelude.{◌≡◌, ◌⊎◌, ℕ, suc, Bool, true, false, nat_lt, nat_le, if◌then◌else◌, List, Result, Ok, Err, IsOk, ⊤}
use Rattle.std.specs.Result.{result_map_both}
use Rattle.ids.specs.declared.refusal.Refusal.{Refusal}
use Rattle.ids.specs.declared.refusal.Refusal.TheVariants.{NoMemory, AtHead, TooDeep}
use Rattle.semantics.specs.Limits.{most_keys}
use Rattle.semantics.specs.Ids.{OpId}
use Rattle.semantics.specs.Elements.{Element, Doc, Field, Item, Place, At, HeadOf, Name, depth}
use Rattle.semantics.specs.Operations.{element_of}
use Rattle.semantics.specs.Paths.{Hop, down}

-- the place is the head of a list
abbrev pub is_head : Place → Bool
is_head (At e) = false
is_head (HeadOf l) = true

-- how many keys the path has
abbrev pub depth_of : Place → ℕ
depth_of (At e) = depth e
depth_of (HeadOf l) = suc (depth l)

-- the root, the key of a field, the id of an item, or the head of a list
pub data LastKey : Type 0 where
  DocKey : LastKey
  FieldName : Name → LastKey
  ItemId : OpId → LastKey
  HeadKey : LastKey

-- the last key of a place
abbrev pub last_of : Place → LastKey
last_of (At Doc) = DocKey
last_of (At (Field e n)) = FieldName n
last_of (At (Item e a)) = ItemId a
last_of (HeadOf l) = HeadKey

-- the element that a path leads to from the root, or the head of the list there
abbrev pub place_at : List Hop → Bool → Place
place_at path false = At (down Doc path)
place_at path true = HeadOf (down Doc path)

-- the same place, unless its path has more than 32 keys
abbrev pub place_from : List Hop → Bool → Result Place Refusal
place_from path head = if nat_lt most_keys (depth_of (place_at path head)) then Err TooDeep else Ok (place_at path head)

-- whether one more key may follow: none after a head, nor after 32 keys
abbrev pub room_at : Place → Result ⊤ Refusal
room_at (HeadOf l) = Err AtHead
room_at (At e) = if nat_le most_keys (depth e) then Err TooDeep else Ok tt

-- the place one key further, where one may follow
abbrev pub one_down : Place → (Element → Place) → Result Place Refusal
one_down p next = result_map_both (λ _. next (element_of p)) (λ why. why) (room_at p)

-- this answer, or NoMemory where the answer is a success
abbrev pub IsUnlessMemory : {T : Type 0} → Result T Refusal → Result T Refusal → Type 0
IsUnlessMemory r wanted = (r ≡ wanted) ⊎ ((r ≡ Err NoMemory) × IsOk wanted)
