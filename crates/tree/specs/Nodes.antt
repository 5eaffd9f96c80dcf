-- Nodes that are named by their numbers, and the context that they stand for.
use Rattle.std.specs.Prelude.{◌≡◌, ◌≢◌, ℕ, ◌<◌, ◌≤◌, Bool, false, cond, IsTrue, List, [], ◌∷◌, length, map, Option, Some, None, slice_get}
use Rattle.std.specs.Prelude.{unwrap_or}
use Rattle.std.specs.FinMap.{find, is_sorted}
use Rattle.semantics.specs.Ids.{OpId, id_cmp}
use Rattle.semantics.specs.Elements.{Element, Doc, Field, Item, Name, Scalar, Tag, name_cmp}
use Rattle.semantics.specs.Paths.{Hop, FieldHop, ItemHop}
use Rattle.semantics.specs.Context.{Context}
use Rattle.operation.specs.cursor.declared.tag.Tag.{Tag as ATag}
use Rattle.operation.specs.cursor.Steps.{tag_of}
use Rattle.operation.specs.value.declared.value.Scalar.{Scalar as AScalar}
use Rattle.operation.specs.value.Values.{scalar_of}
use Rattle.columns.specs.Entries.{AreIndicesIn}
use Rattle.tree.specs.declared.node.Node.{Node}

-- the children of a node, by name and by id
abbrev pub Links : Type 0
Links = List (Name × ℕ) × List (OpId × ℕ)

-- the children of a node; none, where there is no node
abbrev pub links_of : Option Node → Links
links_of None = ([], [])
links_of (Some n) = (n.fields.entries, n.items.entries)

-- the children of the node with this number
abbrev pub links : List Node → ℕ → Links
links ns i = links_of (slice_get ns i)

-- the number of the child at a key, where there is one
abbrev pub linked_by : Links → Hop → Option ℕ
linked_by l (FieldHop n) = find name_cmp n l.0
linked_by l (ItemHop a) = find id_cmp a l.1

-- the number of a child, where there is one
abbrev pub child_number : List Node → ℕ → Hop → Option ℕ
child_number ns i k = linked_by (links ns i) k

-- the same, where the parent may be missing too
abbrev pub next_number : List Node → Option ℕ → Hop → Option ℕ
next_number ns None k = None
next_number ns (Some i) k = child_number ns i k

-- the number of the node of an element, where it has one; the root's is 0
abbrev pub number : List Node → Element → Option ℕ
number ns Doc = Some 0
number ns (Field e n) = next_number ns (number ns e) (FieldHop n)
number ns (Item e a) = next_number ns (number ns e) (ItemHop a)

-- the node with this number, where there is one
abbrev pub node_in : List Node → Option ℕ → Option Node
node_in ns None = None
node_in ns (Some i) = slice_get ns i

-- the node of an element
abbrev pub node_at : List Node → Element → Option Node
node_at ns e = node_in ns (number ns e)

-- the tags of the definitions at each id
abbrev pub tagged : List (OpId × ATag) → List (OpId × Tag)
tagged es = map (λ e. (e.0, tag_of e.1)) es

-- the scalars of the definitions at each id
abbrev pub valued : List (OpId × AScalar) → List (OpId × Scalar)
valued es = map (λ e. (e.0, scalar_of e.1)) es

-- the ids of a node's presence, with their tags; none, where there is no node
abbrev pub presence_of : Option Node → List (OpId × Tag)
presence_of None = []
presence_of (Some n) = tagged n.presence.entries

-- the ids of a node's register, with their scalars
abbrev pub register_of : Option Node → List (OpId × Scalar)
register_of None = []
register_of (Some n) = valued n.register.entries

-- all items of a node's list, in order
abbrev pub order_of : Option Node → List OpId
order_of None = []
order_of (Some n) = n.order.items

-- the items of its list that are flagged as shown
abbrev pub visible_of : Option Node → List OpId
visible_of None = []
visible_of (Some n) = n.order.visible

-- the counter below which nothing stands at an item of its list; 0, where there is no node
abbrev pub empty_below_of : Option Node → ℕ
empty_below_of None = 0
empty_below_of (Some n) = n.empty_below

-- the flags of its fields
abbrev pub flags_of : Option Node → List (Name × Bool)
flags_of None = []
flags_of (Some n) = n.fields.flags

-- whether the flag of this field is raised: false, where there is no such field
abbrev pub is_flagged : Option Node → Name → Bool
is_flagged o n = unwrap_or (find name_cmp n (flags_of o)) false

-- whether it was written to
abbrev pub is_written : Option Node → Bool
is_written None = false
is_written (Some n) = n.is_written

-- the names of the children that a write has reached
abbrev pub names_in : List Node → List (Name × ℕ) → List (Name × Unit {0})
names_in ns [] = []
names_in ns (f ∷ fs) = cond (is_written (slice_get ns f.1)) ((f.0, tt) ∷ names_in ns fs) (names_in ns fs)

-- the context that the nodes stand for
abbrev pub context : List Node → Context
context ns = record {
  presence = λ e. presence_of (node_at ns e);
  register = λ e. register_of (node_at ns e);
  fields = λ e. names_in ns (links_of (node_at ns e)).0;
  order = λ e. order_of (node_at ns e);
}

-- a child's number is greater than its parent's, and no node has two parents
pub record IsTree (ns : List Node) : Type 0 where
  pub rooted : 0 < length ns
  pub rising : (i : ℕ) (k : Hop) (j : ℕ) → child_number ns i k ≡ Some j → (i < j) × (j < length ns)
  pub one_parent : (i : ℕ) (k : Hop) (h : ℕ) (l : Hop) (j : ℕ) → child_number ns i k ≡ Some j → child_number ns h l ≡ Some j
      → (i ≡ h) × (k ≡ l)
  pub sorted_names : (i : ℕ) → IsTrue (is_sorted name_cmp (links ns i).0)
  pub sorted_ids : (i : ℕ) → IsTrue (is_sorted id_cmp (links ns i).1)

-- the index stored with each id of a node is the index of its replica in the table
abbrev pub IsIndexedNode : List ℕ → Option Node → Type 0
IsIndexedNode table None = Unit {0}
IsIndexedNode table (Some n) = AreIndicesIn table n.presence.entries n.presence.indices
    × AreIndicesIn table n.register.entries n.register.indices

-- the same for each node
abbrev pub AreIndexedNodes : List ℕ → List Node → Type 0
AreIndexedNodes table ns = (i : ℕ) → IsIndexedNode table (slice_get ns i)

-- the same children
pub record SameChildren (ns ms : List Node) : Type 0 where
  pub count : length ns ≡ length ms
  pub same : (i : ℕ) → links ns i ≡ links ms i

-- the same children, the same flags of items and fields, and the same bounds of empty items
pub record SameLinks (ns ms : List Node) : Type 0 where
  pub count : length ns ≡ length ms
  pub same : (i : ℕ) → links ns i ≡ links ms i
  pub visible : (i : ℕ) → visible_of (slice_get ns i) ≡ visible_of (slice_get ms i)
  pub empty_below : (i : ℕ) → empty_below_of (slice_get ns i) ≡ empty_below_of (slice_get ms i)
  pub flags : (i : ℕ) → flags_of (slice_get ns i) ≡ flags_of (slice_get ms i)

-- for how many more ids the presence of a node has room
abbrev pub presence_room : Option Node → ℕ
presence_room None = 0
presence_room (Some n) = n.presence.room

-- for how many more ids the register of a node has room
abbrev pub register_room : Option Node → ℕ
register_room None = 0
register_room (Some n) = n.register.room

-- for how many more items the order of a node's list has room
abbrev pub order_room : Option Node → ℕ
order_room None = 0
order_room (Some n) = n.order.room

-- for how many more children of this key's kind a node has room
abbrev pub child_room : Option Node → Hop → ℕ
child_room None k = 0
child_room (Some n) (FieldHop m) = n.fields.room
child_room (Some n) (ItemHop a) = n.items.room

-- no node has less room for ids
pub record MoreRoom (ns ms : List Node) : Type 0 where
  pub presence : (i : ℕ) → presence_room (slice_get ns i) ≤ presence_room (slice_get ms i)
  pub register : (i : ℕ) → register_room (slice_get ns i) ≤ register_room (slice_get ms i)

-- no node but one has less room in its presence, and none in its register
pub record RoomElse (at : ℕ) (ns ms : List Node) : Type 0 where
  pub presence : (i : ℕ) → i ≢ at → presence_room (slice_get ns i) ≤ presence_room (slice_get ms i)
  pub register : (i : ℕ) → register_room (slice_get ns i) ≤ register_room (slice_get ms i)

-- nothing stands there, and it was never written to
pub record IsEmptyNode (n : Node) : Type 0 where
  pub presence : n.presence.entries ≡ []
  pub no_presence : n.presence.indices ≡ []
  pub register : n.register.entries ≡ []
  pub no_register : n.register.indices ≡ []
  pub fields : n.fields.entries ≡ []
  pub flags : n.fields.flags ≡ []
  pub items : n.items.entries ≡ []
  pub order : n.order.items ≡ []
  pub visible : n.order.visible ≡ []
  pub empty_below : n.empty_below ≡ 0
  pub unwritten : n.is_written ≡ false

-- each child and all room stays
pub record Grows (ns ms : List Node) : Type 0 where
  pub count : length ns ≤ length ms
  pub children : (i : ℕ) (k : Hop) (j : ℕ) → child_number ns i k ≡ Some j → child_number ms i k ≡ Some j
  pub presence : (i : ℕ) → presence_room (slice_get ns i) ≤ presence_room (slice_get ms i)
  pub register : (i : ℕ) → register_room (slice_get ns i) ≤ register_room (slice_get ms i)
  pub order : (i : ℕ) → order_room (slice_get ns i) ≤ order_room (slice_get ms i)

-- a tree of the same context, flags and bounds of empty items, with all that was there
pub record Kept (ns ms : List Node) : Type 0 where
  pub tree : IsTree ms
  pub same : context ms ≡ context ns
  pub visible : (e : Element) → visible_of (node_at ms e) ≡ visible_of (node_at ns e)
  pub empty_below : (e : Element) → empty_below_of (node_at ms e) ≡ empty_below_of (node_at ns e)
  pub flagged : (e : Element) (n : Name) → is_flagged (node_at ms e) n ≡ is_flagged (node_at ns e) n
  pub grows : Grows ns ms
  pub indexed : (table : List ℕ) → AreIndexedNodes table ns → AreIndexedNodes table ms

-- the node at j is empty, and the child of none
pub record IsOrphan (ns : List Node) (j : ℕ) : Type 0 where
  pub node : Node
  pub there : slice_get ns j ≡ Some node
  pub empty : IsEmptyNode node
  pub alone : (i : ℕ) (k : Hop) → child_number ns i k ≡ Some j → ⊥

-- each number has the same children, ids and mark
pub record SameView (ns ms : List Node) : Type 0 where
  pub links : (i : ℕ) → links ns i ≡ links ms i
  pub presence : (i : ℕ) → presence_of (slice_get ns i) ≡ presence_of (slice_get ms i)
  pub register : (i : ℕ) → register_of (slice_get ns i) ≡ register_of (slice_get ms i)
  pub order : (i : ℕ) → order_of (slice_get ns i) ≡ order_of (slice_get ms i)
  pub written : (i : ℕ) → is_written (slice_get ns i) ≡ is_written (slice_get ms i)
