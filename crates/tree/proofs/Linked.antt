-- A node that was the child of none becomes one, and no context changes.
use Rattle.std.proofs.Common.{◌≡◌, ◌⊎◌, ℕ, ◌<◌, ◌≤◌, IsTrue, false, List, length, set, Option, Some, None, refl, sym, ap, ◌∙◌, subst, arith}
use Rattle.std.proofs.Common.{inl}
use Rattle.std.proofs.Common.{inr}
use Rattle.std.specs.Prelude.{slice_get, unwrap_or}
use Rattle.std.specs.FinMap.{find, is_sorted}
use Rattle.std.proofs.lemmas.Option.{none-some}
use Rattle.semantics.specs.Ids.{id_cmp}
use Rattle.semantics.specs.Elements.{Element, Doc, Field, Item, Name, name_cmp}
use Rattle.semantics.specs.Paths.{Hop, FieldHop, ItemHop}
use Rattle.columns.specs.Entries.{AreIndicesIn}
use Rattle.tree.specs.declared.node.Node.{Node}
use Rattle.tree.specs.Nodes.{IsOrphan, IsTree, Kept, child_number, context, links, links_of, names_in, next_number, node_at, node_in}
use Rattle.tree.specs.Nodes.{number, order_of, order_room, presence_of, presence_room, register_of, register_room, tagged, valued}
use Rattle.tree.specs.Nodes.{empty_below_of, is_flagged, visible_of}
use Rattle.tree.proofs.ListReads.{get_inside}
use Rattle.tree.proofs.NodeWrites.{indexed_at, indexed_set}
use Rattle.tree.proofs.Contexts.{context_same}
use Rattle.tree.proofs.Widened.{same_set}

-- the orphan j became the child of `at`
pub record Linked (at : ℕ) (key : Hop) (j : ℕ) (ns ms : List Node) : Type 0 where
  pub count : length ns ≡ length ms
  pub absent : child_number ns at key ≡ None
  pub children : (i : ℕ) (k : Hop) → (child_number ms i k ≡ child_number ns i k) ⊎ ((i ≡ at) × (k ≡ key) × (child_number ms i k ≡ Some j))
  pub presence : (i : ℕ) → presence_of (slice_get ns i) ≡ presence_of (slice_get ms i)
  pub register : (i : ℕ) → register_of (slice_get ns i) ≡ register_of (slice_get ms i)
  pub order : (i : ℕ) → order_of (slice_get ns i) ≡ order_of (slice_get ms i)
  pub visible : (i : ℕ) → visible_of (slice_get ns i) ≡ visible_of (slice_get ms i)
  pub empty_below : (i : ℕ) → empty_below_of (slice_get ns i) ≡ empty_below_of (slice_get ms i)
  pub flagged : (i : ℕ) (n : Name) → is_flagged (slice_get ns i) n ≡ is_flagged (slice_get ms i) n
  pub names : (i : ℕ) → names_in ns (links ns i).0 ≡ names_in ms (links ms i).0
  pub sorted_names : (i : ℕ) → IsTrue (is_sorted name_cmp (links ms i).0)
  pub sorted_ids : (i : ℕ) → IsTrue (is_sorted id_cmp (links ms i).1)

some_one : (x y : ℕ) (o : Option ℕ) → o ≡ Some x → o ≡ Some y → x ≡ y
some_one x y o p q = cc

module _ (at : ℕ) (key : Hop) (j : ℕ) (ns ms : List Node) (l : Linked at key j ns ms) (t : IsTree ns) (above : at < j)
    (o : IsOrphan ns j) where
  linked_tree : IsTree ms
  linked_tree = record {
    rooted = let c = l.count in let r = t.rooted in omega arith;
    rising = λ i k h c. elim (l.children i k) [
      | inl e ↦ let r = t.rising i k h (sym e ∙ c) in let n = l.count in (r.0, omega arith)
      | inr (p, q, e) ↦ let s : h ≡ j = some_one h j (child_number ms i k) c e in let n = l.count in
          let inside = get_inside ns j o.node o.there in (omega arith, omega arith)
    ];
    one_parent = λ i s h u k c d. elim (l.children i s) [
      | inl e ↦ elim (l.children h u) [
        | inl f ↦ t.one_parent i s h u k (sym e ∙ c) (sym f ∙ d)
        | inr (p, q, f) ↦ absurd (o.alone i s (sym e ∙ c ∙ ap Some (some_one k j (child_number ms h u) d f)))
      ]
      | inr (p, q, e) ↦ elim (l.children h u) [
        | inl f ↦ absurd (o.alone h u (sym f ∙ d ∙ ap Some (some_one k j (child_number ms i s) c e)))
        | inr (p2, q2, f) ↦ (p ∙ sym p2, q ∙ sym q2)
      ]
    ];
    sorted_names = l.sorted_names;
    sorted_ids = l.sorted_ids;
  }

  barren : (k : Hop) → child_number ns j k ≡ None
  barren (FieldHop n) = ap (λ x. find name_cmp n (links_of x).0) o.there ∙ ap (find name_cmp n) o.empty.fields
  barren (ItemHop a) = ap (λ x. find id_cmp a (links_of x).1) o.there ∙ ap (find id_cmp a) o.empty.items

  -- an element keeps its number, or had none and has the orphan's
  abbrev Moved : Option ℕ → Option ℕ → Type 0
  Moved p q = (p ≡ q) ⊎ ((p ≡ None) × (q ≡ Some j))

  moved_next : (p q : Option ℕ) → Moved p q → (k : Hop) → Moved (next_number ns p k) (next_number ms q k)
  moved_next p q (inl e) k = subst (λ r. Moved (next_number ns p k) (next_number ms r k)) e (by p) where
    by : (p : Option ℕ) → Moved (next_number ns p k) (next_number ms p k)
    by None = inl refl
    by (Some i) = elim (l.children i k) [
      | inl e ↦ inl (sym e)
      | inr (h, s, e) ↦ inr (ap (λ x. child_number ns x k) h ∙ ap (child_number ns at) s ∙ l.absent, e)
    ]
  moved_next p q (inr (e, f)) k = inl
      (ap (λ r. next_number ns r k) e
      ∙ sym (ap (λ r. next_number ms r k) f ∙ elim (l.children j k) [ inl g ↦ g ∙ barren k | inr (h, s, g) ↦ absurd (omega arith) ]))

  moved : (e : Element) → Moved (number ns e) (number ms e)
  moved Doc = inl refl
  moved (Field e n) = moved_next (number ns e) (number ms e) (moved e) (FieldHop n)
  moved (Item e a) = moved_next (number ns e) (number ms e) (moved e) (ItemHop a)

  kept : {A : Type 0} (f g : Option Node → A) → f None ≡ g None → ((i : ℕ) → f (slice_get ns i) ≡ g (slice_get ms i))
      → f None ≡ f (Some o.node) → (p q : Option ℕ) → Moved p q → f (node_in ns p) ≡ g (node_in ms q)
  kept f g z h e p q (inl m) = subst (λ r. f (node_in ns p) ≡ g (node_in ms r)) m (by p) where
    by : (p : Option ℕ) → f (node_in ns p) ≡ g (node_in ms p)
    by None = z
    by (Some i) = h i
  kept f g z h e p q (inr (a, b)) = ap (λ r. f (node_in ns r)) a ∙ e ∙ sym (ap f o.there) ∙ h j ∙ sym (ap (λ r. g (node_in ms r)) b)

  linked_context : context ms ≡ context ns
  linked_context = sym (context_same _ _
      (λ x. kept presence_of presence_of refl l.presence (ap tagged (sym o.empty.presence)) _ _ (moved x))
      (λ x. kept register_of register_of refl l.register (ap valued (sym o.empty.register)) _ _ (moved x))
      (λ x. kept (λ k. names_in ns (links_of k).0) (λ k. names_in ms (links_of k).0) refl l.names
      (sym (ap (names_in ns) o.empty.fields)) _ _ (moved x))
      (λ x. kept order_of order_of refl l.order (sym o.empty.order) _ _ (moved x)))

  linked_visible : (e : Element) → visible_of (node_at ms e) ≡ visible_of (node_at ns e)
  linked_visible e = sym (kept visible_of visible_of refl l.visible (sym o.empty.visible) _ _ (moved e))

  linked_empty_below : (e : Element) → empty_below_of (node_at ms e) ≡ empty_below_of (node_at ns e)
  linked_empty_below e = sym (kept empty_below_of empty_below_of refl l.empty_below (sym o.empty.empty_below) _ _ (moved e))

  linked_flagged : (e : Element) (n : Name) → is_flagged (node_at ms e) n ≡ is_flagged (node_at ns e) n
  linked_flagged e n = sym (kept (λ x. is_flagged x n) (λ x. is_flagged x n) refl (λ i. l.flagged i n)
      (ap (λ fs. unwrap_or (find name_cmp n fs) false) (sym o.empty.flags)) _ _ (moved e))

  linked_children : (i : ℕ) (k : Hop) (h : ℕ) → child_number ns i k ≡ Some h → child_number ms i k ≡ Some h
  linked_children i k h c = elim (l.children i k) [
    | inl e ↦ e ∙ c
    | inr (p, q, e) ↦ absurd (none-some h (sym (ap (λ x. child_number ns x k) p ∙ ap (child_number ns at) q ∙ l.absent) ∙ c))
  ]

same_room : (room : Option Node → ℕ) (ns : List Node) (at : ℕ) (n m : Node) → slice_get ns at ≡ Some n → room (Some m) ≡ room (Some n)
    → (i : ℕ) → room (slice_get ns i) ≤ room (slice_get (set ns at m) i)
same_room room ns at n m g h i = let e = same_set room ns at n m g h i in omega arith

-- a write that changes nothing but the children
pub record OnlyLinks (n m : Node) : Type 0 where
  pub presence : m.presence ≡ n.presence
  pub register : m.register ≡ n.register
  pub order : m.order ≡ n.order
  pub empty_below : m.empty_below ≡ n.empty_below
  pub written : m.is_written ≡ n.is_written

pub linked_kept : (at : ℕ) (key : Hop) (j : ℕ) (ns : List Node) (n m : Node) → slice_get ns at ≡ Some n → OnlyLinks n m
    → Linked at key j ns (set ns at m) → IsTree ns → at < j → IsOrphan ns j → Kept ns (set ns at m)
linked_kept at key j ns n m g s l t above o = record {
  tree = linked_tree at key j ns (set ns at m) l t above o;
  same = linked_context at key j ns (set ns at m) l t above o;
  visible = linked_visible at key j ns (set ns at m) l t above o;
  empty_below = linked_empty_below at key j ns (set ns at m) l t above o;
  flagged = linked_flagged at key j ns (set ns at m) l t above o;
  grows = record {
    count = let c = l.count in omega arith;
    children = linked_children at key j ns (set ns at m) l t above o;
    presence = same_room presence_room ns at n m g (ap (λ c. c.room) s.presence);
    register = same_room register_room ns at n m g (ap (λ c. c.room) s.register);
    order = same_room order_room ns at n m g (ap (λ c. c.room) s.order);
  };
  indexed = λ table b. indexed_set table ns at n m g b (let h = indexed_at table ns at n g b in (
    subst (λ c. AreIndicesIn table c.entries c.indices) (sym s.presence) h.0,
    subst (λ c. AreIndicesIn table c.entries c.indices)
        (sym s.register) h.1,
  ));
}
