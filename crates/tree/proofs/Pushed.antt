-- An empty node at the end, which is the child of none.
use Rattle.std.proofs.Common.{◌≡◌, ℕ, zero, suc, ◌+◌, ◌≤◌, IsTrue, List, [], ◌∷◌, ◌++◌, length, Option, Some, None, refl, sym, ap, ◌∙◌}
use Rattle.std.proofs.Common.{subst, arith, length-append}
use Rattle.std.specs.Prelude.{slice_get}
use Rattle.std.specs.FinMap.{is_sorted}
use Rattle.semantics.specs.Ids.{id_cmp}
use Rattle.semantics.specs.Elements.{Element, Name, name_cmp}
use Rattle.semantics.specs.Paths.{Hop}
use Rattle.operation.specs.cursor.declared.tag.Tag.{Tag}
use Rattle.operation.specs.value.declared.value.Scalar.{Scalar}
use Rattle.columns.specs.Entries.{AreIndicesIn}
use Rattle.tree.specs.declared.node.Node.{Node}
use Rattle.tree.specs.Nodes.{Grows, IsEmptyNode, IsOrphan, IsTree, Kept, Links, IsIndexedNode, SameView, child_room, is_written, linked_by}
use Rattle.tree.specs.Nodes.{links_of, order_of, order_room, presence_of, presence_room, register_of, register_room, tagged, valued}
use Rattle.tree.specs.Nodes.{flags_of, empty_below_of, is_flagged, visible_of, node_at}
use Rattle.tree.proofs.SameViews.{context_view, flagged_view, empty_below_view, visible_view}
use Rattle.tree.proofs.Widened.{links_pair}

-- what holds of each node, and of an empty one where it holds of none
pub push_each : (P : Option Node → ℕ → Type 0) (n : Node) → ((i : ℕ) → P None i → P (Some n) i) → (ns : List Node)
    → ((i : ℕ) → P (slice_get ns i) i) → (i : ℕ) → P (slice_get (ns ++ n ∷ []) i) i
push_each P n h [] each zero = h zero (each zero)
push_each P n h [] each (suc i) = each (suc i)
push_each P n h (m ∷ ns) each zero = each zero
push_each P n h (m ∷ ns) each (suc i) = push_each (λ o j. P o (suc j)) n (λ j. h (suc j)) ns (λ j. each (suc j)) i

pushed : {A : Type 0} (f : Option Node → A) (n : Node) → f None ≡ f (Some n) → (ns : List Node) (i : ℕ)
    → f (slice_get ns i) ≡ f (slice_get (ns ++ n ∷ []) i)
pushed f n h ns = push_each (λ o i. f (slice_get ns i) ≡ f o) n (λ i p. p ∙ h) ns (λ i. refl)

room_push : (room : Option Node → ℕ) → room None ≡ 0 → (n : Node) (ns : List Node) (i : ℕ)
    → room (slice_get ns i) ≤ room (slice_get (ns ++ n ∷ []) i)
room_push room z n ns = push_each (λ o i. room (slice_get ns i) ≤ room o) n (λ i p. let z = z in omega arith) ns (λ i. omega arith)

pub push_view : (ns : List Node) (n : Node) → IsEmptyNode n → SameView ns (ns ++ n ∷ [])
push_view ns n e = record {
  links = pushed links_of n (links_pair [] n.fields.entries [] n.items.entries (sym e.fields) (sym e.items)) ns;
  presence = pushed presence_of n (ap tagged (sym e.presence)) ns;
  register = pushed register_of n (ap valued (sym e.register)) ns;
  order = pushed order_of n (sym e.order) ns;
  written = pushed is_written n (sym e.unwritten) ns;
}

get_last : (ns : List Node) (n : Node) → slice_get (ns ++ n ∷ []) (length ns) ≡ Some n
get_last [] n = refl
get_last (m ∷ ns) n = get_last ns n

pub push_rooms : (ns : List Node) (n : Node) (i : ℕ) (k : Hop) → child_room (slice_get ns i) k ≤ child_room (slice_get (ns ++ n ∷ []) i) k
push_rooms ns n i k = room_push (λ o. child_room o k) refl n ns i

pub empty_indexed : (table : List ℕ) (n : Node) → IsEmptyNode n → IsIndexedNode table (Some n)
empty_indexed table n e = (
  subst (λ es. AreIndicesIn table es n.presence.indices) (sym e.presence)
      (subst (AreIndicesIn {X = Tag} table []) (sym e.no_presence) refl),
  subst (λ es. AreIndicesIn table es n.register.indices) (sym e.register)
      (subst (AreIndicesIn {X = Scalar} table []) (sym e.no_register) refl),
)

module _ (ns : List Node) (n : Node) (e : IsEmptyNode n) where
  long : length (ns ++ n ∷ []) ≡ length ns + 1
  long = length-append ns (n ∷ [])

  push_tree : IsTree ns → IsTree (ns ++ n ∷ [])
  push_tree t =
      let v = push_view ns n e in
      let long = long in
      record {
        rooted = omega arith;
        rising = λ i k j c. let r = t.rising i k j (ap (λ l. linked_by l k) (v.links i) ∙ c) in (r.0, omega arith);
        one_parent = λ i k h l j c d. t.one_parent i k h l j (ap (λ x. linked_by x k) (v.links i) ∙ c)
            (ap (λ x. linked_by x l) (v.links h) ∙ d);
        sorted_names = λ i. subst (λ (l : Links). IsTrue (is_sorted name_cmp l.0)) (v.links i) (t.sorted_names i);
        sorted_ids = λ i. subst (λ (l : Links). IsTrue (is_sorted id_cmp l.1)) (v.links i) (t.sorted_ids i);
      }

  push_grows : Grows ns (ns ++ n ∷ [])
  push_grows =
      let v = push_view ns n e in
      let long = long in
      record {
        count = omega arith;
        children = λ i k j c. sym (ap (λ l. linked_by l k) (v.links i)) ∙ c;
        presence = room_push presence_room refl n ns;
        register = room_push register_room refl n ns;
        order = room_push order_room refl n ns;
      }

  pub push_visible : (x : Element) → visible_of (node_at ns x) ≡ visible_of (node_at (ns ++ n ∷ []) x)
  push_visible = visible_view ns (ns ++ n ∷ []) (push_view ns n e).links (pushed visible_of n (sym e.visible) ns)

  pub push_empty_below : (x : Element) → empty_below_of (node_at ns x) ≡ empty_below_of (node_at (ns ++ n ∷ []) x)
  push_empty_below = empty_below_view ns (ns ++ n ∷ []) (push_view ns n e).links (pushed empty_below_of n (sym e.empty_below) ns)

  pub push_flagged : (x : Element) (k : Name) → is_flagged (node_at ns x) k ≡ is_flagged (node_at (ns ++ n ∷ []) x) k
  push_flagged = flagged_view ns (ns ++ n ∷ []) (push_view ns n e).links (pushed flags_of n (sym e.flags) ns)

  pub push_kept : IsTree ns → Kept ns (ns ++ n ∷ [])
  push_kept t = record {
    tree = push_tree t;
    same = sym (context_view ns (ns ++ n ∷ []) (push_view ns n e));
    visible = λ x. sym (push_visible x);
    empty_below = λ x. sym (push_empty_below x);
    flagged = λ x k. sym (push_flagged x k);
    grows = push_grows;
    indexed = λ table b. push_each (λ o i. IsIndexedNode table o) n (λ i h. empty_indexed table n e) ns b;
  }

  pub push_orphan : IsTree ns → IsOrphan (ns ++ n ∷ []) (length ns)
  push_orphan t = record {
    node = n;
    there = get_last ns n;
    empty = e;
    alone = λ i k c. let r = t.rising i k (length ns) (ap (λ l. linked_by l k) ((push_view ns n e).links i) ∙ c) in omega arith;
  }
