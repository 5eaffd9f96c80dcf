-- What an operation writes along a path, step by step.
use Rattle.std.specs.Prelude.{◌≡◌, ℕ, ◌<◌, ◌≤◌, IsTrue, cond, List, length, take, map, Option, Some, None, slice_get}
use Rattle.std.specs.FinMap.{put}
use Rattle.ids.specs.Members.{AreDistinct}
use Rattle.ids.specs.Vectors.{names_only}
use Rattle.semantics.specs.Ids.{OpId, IdSet, id_cmp}
use Rattle.semantics.specs.Elements.{Element, Doc, Field, Item, Name, Scalar, Tag, AsMap, AsList, name_cmp, is_same}
use Rattle.semantics.specs.Paths.{Hop, FieldHop, ItemHop, down}
use Rattle.semantics.specs.Context.{Context, without, clear, insert_after}
use Rattle.semantics.specs.Vectors.{covers}
use Rattle.semantics.specs.Tables.{by_table}
use Rattle.tree.specs.declared.node.Node.{Node}
use Rattle.tree.specs.declared.stamp.Covered.{Covered}
use Rattle.tree.specs.declared.stamp.Stamp.{Stamp}
use Rattle.tree.specs.Nodes.{node_at, presence_room}

-- an id with its replica's index, and a vector of replicas of the table
pub record IsStamp (s : Stamp) : Type 0 where
  pub distinct : AreDistinct s.table.now.numbers
  pub index : slice_get s.table.now.numbers s.index ≡ Some s.id.replica
  pub known : IsTrue (names_only s.table.now.numbers s.vector.now)

-- the ids that the vector covers
abbrev pub deps_of : Stamp → IdSet
deps_of s = covers s.vector.now

-- a column for each replica of the table
pub record IsCovered (c : Covered) : Type 0 where
  pub distinct : AreDistinct c.table.now.numbers
  pub width : length c.table.now.numbers ≤ length c.column.now

-- the ids that the column covers
abbrev pub covered_by : Covered → IdSet
covered_by c = covers (by_table c.table.now.numbers c.column.now)

-- the element at the end of a path
abbrev pub end_of : List Hop → Element
end_of path = down Doc path

-- e alone is cleared
abbrev pub clear_own : Context → Element → IdSet → Context
clear_own C e S = record C {
  presence = λ x. cond (is_same x e) (without S (C.presence x)) (C.presence x);
  register = λ x. cond (is_same x e) (without S (C.register x)) (C.register x);
}

-- the fields of e with these names
abbrev pub fields_of : Element → List (Name × ℕ) → List Element
fields_of e fs = map (λ f. Field e f.0) fs

-- the items of e with these ids
abbrev pub items_of : Element → List (OpId × ℕ) → List Element
items_of e is = map (λ a. Item e a.0) is

-- a goes to the presence of e
abbrev pub mark : Context → Element → OpId → Tag → Context
mark C e a k = record C { presence = λ x. cond (is_same x e) (put id_cmp a k (C.presence x)) (C.presence x) }

-- n is a name at e
abbrev pub name_at : Context → Element → Name → Context
name_at C e n = record C { fields = λ x. cond (is_same x e) (put name_cmp n tt (C.fields x)) (C.fields x) }

-- a goes to the presence of each element on the way down to e
abbrev pub entered : Context → Element → OpId → Context
entered C Doc a = C
entered C (Field e n) a = name_at (mark (entered C e a) e a AsMap) e n
entered C (Item e b) a = mark (entered C e a) e a AsList

-- a goes to the presence of e, on the way to a child
abbrev pub entered_by : Context → Element → Hop → OpId → Context
entered_by C e (FieldHop n) a = name_at (mark C e a AsMap) e n
entered_by C e (ItemHop b) a = mark C e a AsList

-- each node of the path is there, with room for an id
abbrev pub HasRoom : List Node → List Hop → Type 0
HasRoom ns path = (k : ℕ) → k ≤ length path → 0 < presence_room (node_at ns (end_of (take k path)))

-- each element on the way down to e, and e itself, is there with room for an id
abbrev pub RoomTo : List Node → Element → Type 0
RoomTo ns Doc = 0 < presence_room (node_at ns Doc)
RoomTo ns (Field e n) = RoomTo ns e × (0 < presence_room (node_at ns (Field e n)))
RoomTo ns (Item e a) = RoomTo ns e × (0 < presence_room (node_at ns (Item e a)))

-- a scalar goes to the register of e
abbrev pub registered : Context → Element → OpId → Option Scalar → Context
registered C e a None = C
registered C e a (Some s) = record C { register = λ x. cond (is_same x e) (put id_cmp a s (C.register x)) (C.register x) }

-- t is cleared, and then a, with its tag and scalar, is written along the path to it
abbrev pub assigned : Context → OpId → IdSet → Element → Tag → Option Scalar → Context
assigned C a S t k s = registered (mark (entered (clear C t S) t a) t a k) t a s

-- a goes into the order of the list at e
abbrev pub linked : Context → Element → Option OpId → OpId → Context
linked C e p a = record C { order = λ x. cond (is_same x e) (insert_after p a (C.order x)) (C.order x) }
