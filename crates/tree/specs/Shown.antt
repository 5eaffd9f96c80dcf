-- Which items the lists show, and where nothing stands.
use Rattle.std.specs.Prelude.{◌≡◌, ℕ, ◌<◌, Bool, false, List, length, None}
use Rattle.std.specs.List.{filter}
use Rattle.semantics.specs.Ids.{OpId}
use Rattle.semantics.specs.Elements.{Element, Field, Item, Name}
use Rattle.semantics.specs.DocumentAnswer.{is_any, visible_items}
use Rattle.tree.specs.declared.node.Node.{Node}
use Rattle.tree.specs.Nodes.{AreIndexedNodes, SameView, context, empty_below_of, is_flagged, node_at, number, order_of, visible_of}

-- each list shows its visible items
abbrev pub AreShown : List Node → Type 0
AreShown ns = (e : Element) → visible_of (node_at ns e) ≡ visible_items (context ns) e

-- nothing stands at an item of the list at l whose id has a counter below g
abbrev pub IsEmptyBelow : List Node → Element → ℕ → Type 0
IsEmptyBelow ns l g = (a : OpId) → a.counter < g → is_any ((context ns).presence (Item l a)) ≡ false

-- nothing stands at the items below the list's bound, nor at a field whose flag isn't raised
pub record AreEmpty (ns : List Node) : Type 0 where
  pub items : (l : Element) → IsEmptyBelow ns l (empty_below_of (node_at ns l))
  pub fields : (e : Element) (n : Name) → is_flagged (node_at ns e) n ≡ false → is_any ((context ns).presence (Field e n)) ≡ false

-- each list shows its visible items, and nothing stands at those below its bound, nor at a field whose flag isn't raised, except that all
-- this may be wrong at the items and fields at which off holds
pub record ShownBut (ns : List Node) (off : Element → Bool) : Type 0 where
  -- the flags as they are
  pub flag : Element → OpId → Bool
  pub flagged : (l : Element) → visible_of (node_at ns l) ≡ filter (flag l) (order_of (node_at ns l))
  pub right : (l : Element) (a : OpId) → off (Item l a) ≡ false → flag l a ≡ is_any ((context ns).presence (Item l a))
  pub absent : (l : Element) (a : OpId) → number ns (Item l a) ≡ None → flag l a ≡ false
  pub empty_below : (l : Element) (a : OpId) → off (Item l a) ≡ false → a.counter < empty_below_of (node_at ns l)
      → is_any ((context ns).presence (Item l a)) ≡ false
  pub fields : (e : Element) (n : Name) → off (Field e n) ≡ false → is_flagged (node_at ns e) n ≡ false
      → is_any ((context ns).presence (Field e n)) ≡ false

-- the same nodes, but for the flags of their items and fields and their lists' bounds of empty items
pub record SameButFlags (ns ms : List Node) : Type 0 where
  pub count : length ns ≡ length ms
  pub view : SameView ns ms
  pub indexed : (table : List ℕ) → AreIndexedNodes table ns → AreIndexedNodes table ms
