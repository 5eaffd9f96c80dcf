-- A tree as contracts see it, and what an operation needs of it.
use Rattle.std.specs.Prelude.{◌≡◌, ℕ, ◌<◌, ◌≤◌, ◌-◌, min, Bool, true, ◌&&◌, IsTrue, IsFalse, List, Option, Some, None, IsSome, length}
use Rattle.std.specs.Prelude.{option_map, map}
use Rattle.ids.specs.Members.{AreDistinct}
use Rattle.ids.specs.Tables.{Table}
use Rattle.semantics.specs.Ids.{OpId}
use Rattle.semantics.specs.Elements.{Element, Doc, Field, Item, Value}
use Rattle.semantics.specs.Operations.{scalar_in, slot_of, target_in, value_of}
use Rattle.semantics.specs.Paths.{Hop, FieldHop, ItemHop}
use Rattle.semantics.specs.Context.{Context, has_item, has_position}
use Rattle.semantics.specs.Stamped.{Stamped}
use Rattle.operation.specs.value.declared.value.Scalar.{Scalar}
use Rattle.operation.specs.value.Values.{scalar_of}
use Rattle.tree.specs.declared.node.Node.{Node}
use Rattle.tree.specs.Nodes.{AreIndexedNodes, IsTree, context, node_at, order_room, register_room}
use Rattle.tree.specs.Nested.{IsNested}
use Rattle.tree.specs.Shown.{AreEmpty, AreShown}
use Rattle.operation.specs.cursor.Steps.{hop_of}
use Rattle.tree.specs.declared.insert.Slot.{Slot}
use Rattle.tree.specs.Writes.{RoomTo, end_of}

-- a tree: the table of replicas, for how many more there is room, the nodes, and the copy of a scalar that the next operation writes
pub record Planted : Type 0 where
  pub table : List ℕ
  pub room : ℕ
  pub nodes : List Node
  pub scalar : Option Scalar

-- what a tree keeps as contracts see it: there is room for another replica where the table has it, and the column is wider
abbrev pub planted_of : Table → List Node → Option Scalar → List ℕ → Planted
planted_of table nodes scalar column = record {
  table = table.numbers;
  room = min table.room (length column - length table.numbers);
  nodes = nodes;
  scalar = scalar;
}

-- the document that a tree holds
abbrev pub document : Planted → Context
document t = context t.nodes

-- the numbers of the table differ, the nodes are a tree, what stands beneath an element stands at it too, lists show their visible
-- items, nothing stands at items below their list's bound nor at fields whose flag is lowered, and each id's index is its
-- replica's in the table; a column for what an operation depends on is as wide as the table at least
pub record IsPlanted (table : List ℕ) (nodes : List Node) (column : List ℕ) : Type 0 where
  pub distinct : AreDistinct table
  pub tree : IsTree nodes
  pub nested : IsNested (context nodes)
  pub shown : AreShown nodes
  pub empty : AreEmpty nodes
  pub indexed : AreIndexedNodes table nodes
  pub wide : length table ≤ length column

-- the element that s writes at
abbrev pub target_of : Stamped → Element
target_of s = target_in (slot_of s.mutation s.place) s.id s.place

-- room for what a value writes at t, and the copy of its scalar
abbrev pub RoomToWrite : List Node → (copy : Option Scalar) → Element → Option Value → Type 0
RoomToWrite ns copy t None = Unit {0}
RoomToWrite ns copy t (Some v) = RoomTo ns t × (option_map scalar_of copy ≡ scalar_in (Some v))
    × (IsSome (scalar_in (Some v)) → 0 < register_room (node_at ns t))

-- room for a new item in the order of a slot's list
abbrev pub RoomToLink : List Node → Option (Element × Option OpId) → Type 0
RoomToLink ns None = Unit {0}
RoomToLink ns (Some slot) = 0 < order_room (node_at ns slot.0)

-- all the memory that the operation needs is there
pub record IsReserved (ns : List Node) (copy : Option Scalar) (s : Stamped) : Type 0 where
  pub write : RoomToWrite ns copy (target_of s) (value_of s.mutation)
  pub link : RoomToLink ns (slot_of s.mutation s.place)

-- what an insert goes after is in its list, and its own id isn't
abbrev pub FitsIn : Context → OpId → Option (Element × Option OpId) → Type 0
FitsIn C a None = Unit {0}
FitsIn C a (Some slot) = IsTrue (has_position slot.1 (C.order slot.0)) × IsFalse (has_item a (C.order slot.0))

-- the same for an operation
abbrev pub IsPlaced : Context → Stamped → Type 0
IsPlaced C s = FitsIn C s.id (slot_of s.mutation s.place)

-- an insert of a into the list at l, after p, has its room, and fits in
pub record CanInsert (ns : List Node) (l : Element) (p : Option OpId) (a : OpId) (s : Option Scalar) : Type 0 where
  pub room : RoomTo ns (Item l a)
  pub register : IsSome s → 0 < register_room (node_at ns (Item l a))
  pub order : 0 < order_room (node_at ns l)
  pub position : IsTrue (has_position p ((context ns).order l))
  pub fresh : IsFalse (has_item a ((context ns).order l))

-- the slot of the program is that of the definitions
abbrev pub SlotIs : Option Slot → Option (Element × Option OpId) → Type 0
SlotIs o slot = option_map (λ s. (end_of (map hop_of s.list.now), s.prev)) o ≡ slot

-- the key is a field's, or that of one of these items
abbrev pub has_key : List OpId → Hop → Bool
has_key items (FieldHop n) = true
has_key items (ItemHop a) = has_item a items

-- each item on the way down to e stands in the list that it is entered from
abbrev pub items_stand : Context → Element → Bool
items_stand C Doc = true
items_stand C (Field e n) = items_stand C e
items_stand C (Item l a) = has_item a (C.order l) && items_stand C l
