-- Which child is linked at a position.
use Rattle.std.proofs.Common.{◌≡◌, ℕ, ◌<◌, List, length, get_or, Some, sym, ap, ◌∙◌, arith}
use Rattle.std.specs.Prelude.{IsTrue, slice_get}
use Rattle.std.specs.declared.cmp.Ordering.{Ordering}
use Rattle.std.specs.Cmp.{IsTotalOrder}
use Rattle.std.specs.FinMap.{find, is_sorted}
use Rattle.std.proofs.lemmas.Cmp.{tied_itself}
use Rattle.std.proofs.lemmas.List.{length-map, get_or-map}
use Rattle.std.proofs.lemmas.Option.{get_or_from_slice_get}
use Rattle.semantics.specs.Ids.{OpId, id_cmp}
use Rattle.semantics.specs.Elements.{Name, name_cmp}
use Rattle.semantics.specs.Paths.{FieldHop, ItemHop}
use Rattle.semantics.proofs.Orders.{id_total, name_total}
use Rattle.columns.specs.Rank.{keys_of}
use Rattle.columns.proofs.Ranks.{rising_keys, stands_here}
use Rattle.columns.proofs.Puts.{find_there}
use Rattle.tree.specs.declared.node.Node.{Node}
use Rattle.tree.specs.Nodes.{links, links_of, child_number, IsTree}

find_at : {K X : Type 0} (R : K → K → Ordering) → IsTotalOrder R → (es : List (K × X)) (i : ℕ) (d : K × X) → IsTrue (is_sorted R es)
    → i < length es → find R (get_or es i d).0 es ≡ Some (get_or es i d).1
find_at {K} {X} R o es i d s h =
    let key = (get_or es i d).0 in
    let long : length (keys_of es) ≡ length es = length-map es (λ (e : K × X). e.0) in
    let here : get_or (keys_of es) i key ≡ key = get_or-map (λ (e : K × X). e.0) es i d key h in
    find_there R key es i d
    (stands_here R o key (keys_of es) i key (rising_keys R es ∙ s) (omega arith) (ap (R key) here ∙ tied_itself o key))

pub field_there : (ns : List Node) → IsTree ns → (i position : ℕ) (d : Name × ℕ) → position < length (links ns i).0
    → child_number ns i (FieldHop (get_or (links ns i).0 position d).0) ≡ Some (get_or (links ns i).0 position d).1
field_there ns t i position d h = find_at name_cmp name_total (links ns i).0 position d (t.sorted_names i) h

pub item_there : (ns : List Node) → IsTree ns → (i position : ℕ) (d : OpId × ℕ) → position < length (links ns i).1
    → child_number ns i (ItemHop (get_or (links ns i).1 position d).0) ≡ Some (get_or (links ns i).1 position d).1
item_there ns t i position d h = find_at id_cmp id_total (links ns i).1 position d (t.sorted_ids i) h

-- what stands at a position among a node's items
pub item_entry : (ns : List Node) (i position : ℕ) (n : Node) (x : OpId × ℕ) → slice_get ns i ≡ Some n
    → slice_get n.items.entries position ≡ Some x → (d : OpId × ℕ) → get_or (links ns i).1 position d ≡ x
item_entry ns i position n x g h d = ap (λ o. get_or (links_of o).1 position d) g ∙ get_or_from_slice_get n.items.entries position x d h

pub item_number : (ns : List Node) → IsTree ns → (i position : ℕ) (n : Node) (x : OpId × ℕ) → slice_get ns i ≡ Some n
    → slice_get n.items.entries position ≡ Some x → position < length (links ns i).1 → child_number ns i (ItemHop x.0) ≡ Some x.1
item_number ns t i position n x g h lt =
    let e = item_entry ns i position n x g h x in
    ap (λ (y : OpId × ℕ). child_number ns i (ItemHop y.0)) (sym e) ∙ item_there ns t i position x lt ∙ ap (λ (y : OpId × ℕ). Some y.1) e
