-- The items of a path, hop by hop.
use Rattle.std.proofs.Common.{◌≡◌, ℕ, ◌+◌, ◌<◌, Bool, true, false, ◌&&◌, List, [], ◌∷◌, length, map, get_or, take, drop, Option, Some, None}
use Rattle.std.proofs.Common.{refl, sym, ap, ◌∙◌}
use Rattle.std.specs.Prelude.{IfSome}
use Rattle.std.proofs.lemmas.Bool.{and_right}
use Rattle.std.proofs.lemmas.List.{take-append-drop}
use Rattle.semantics.specs.Elements.{Element, Doc}
use Rattle.semantics.specs.Paths.{Hop as TheHop, FieldHop, ItemHop, child, down}
use Rattle.semantics.specs.Context.{Context}
use Rattle.semantics.proofs.ElementPaths.{down-append}
use Rattle.operation.specs.cursor.declared.hop.Hop.{Hop}
use Rattle.operation.specs.cursor.Steps.{hop_of}
use Rattle.tree.specs.declared.node.Node.{Node}
use Rattle.tree.specs.Nodes.{IsTree, context, next_number, node_in, number, order_of}
use Rattle.tree.specs.Trees.{has_key, items_stand}
use Rattle.tree.specs.Writes.{end_of}
use Rattle.tree.proofs.Shape.{number_extend, number_inside}
use Rattle.tree.proofs.Hops.{end_more}

-- the node of an element is one of the nodes
pub node_inside : (ns : List Node) → IsTree ns → (e : Element) (o : Option ℕ) → number ns e ≡ o → IfSome o (λ i. i < length ns)
node_inside ns t e None is = tt
node_inside ns t e (Some i) is = number_inside ns t e i is

-- one key further
pub items_child : (C : Context) (e : Element) (k : TheHop) → items_stand C (child e k) ≡ (has_key (C.order e) k && items_stand C e)
items_child C e (FieldHop n) = refl
items_child C e (ItemHop a) = refl

-- where an item is missing, no longer path stands
pub items_fallen : (C : Context) (e : Element) (keys : List TheHop) → items_stand C e ≡ false → items_stand C (down e keys) ≡ false
items_fallen C e [] h = h
items_fallen C e (k ∷ ks) h = items_fallen C (child e k) ks (items_child C e k ∙ and_right (has_key (C.order e) k) (items_stand C e) h)

-- what of a path is known after its first keys
pub record StandsSo (ns : List Node) (e : Element) (o : Option ℕ) : Type 0 where
  pub node : number ns e ≡ o
  pub stood : items_stand (context ns) e ≡ true

module _ (ns : List Node) (path : List Hop) (k : ℕ) (x : Hop) (inside : k < length path) (is : x ≡ get_or path k x) where
  -- the element so far, and the one after the next hop
  abbrev here : Element
  here = end_of (take k (map hop_of path))

  -- whether the next hop stands decides
  decided : (o : Option ℕ) → StandsSo ns here o
      → items_stand (context ns) (end_of (take (k + 1) (map hop_of path))) ≡ has_key (order_of (node_in ns o)) (hop_of x)
  decided o h =
      ap (items_stand (context ns)) (end_more path k x inside is)
      ∙ items_child (context ns) here (hop_of x)
      ∙ ap (λ b. has_key ((context ns).order here) (hop_of x) && b) h.stood
      ∙ whole (has_key ((context ns).order here) (hop_of x))
      ∙ ap (λ i. has_key (order_of (node_in ns i)) (hop_of x)) h.node
    where
      whole : (b : Bool) → (b && true) ≡ b
      whole true = refl
      whole false = refl

  pub stands_more : (o p : Option ℕ) → StandsSo ns here o → has_key (order_of (node_in ns o)) (hop_of x) ≡ true
      → p ≡ next_number ns o (hop_of x) → StandsSo ns (end_of (take (k + 1) (map hop_of path))) p
  stands_more o p h there next = record {
    node = ap (number ns) (end_more path k x inside is) ∙ number_extend ns here (hop_of x) ∙ ap (λ i. next_number ns i (hop_of x)) h.node
        ∙ sym next;
    stood = decided o h ∙ there;
  }

  pub falls : (o : Option ℕ) → StandsSo ns here o → has_key (order_of (node_in ns o)) (hop_of x) ≡ false
      → items_stand (context ns) (end_of (map hop_of path)) ≡ false
  falls o h lacks =
      ap (λ xs. items_stand (context ns) (end_of xs)) (sym (take-append-drop (k + 1) (map hop_of path)))
      ∙ ap (items_stand (context ns)) (down-append Doc (take (k + 1) (map hop_of path)) (drop (k + 1) (map hop_of path)))
      ∙ items_fallen (context ns) (end_of (take (k + 1) (map hop_of path))) (drop (k + 1) (map hop_of path)) (decided o h ∙ lacks)
