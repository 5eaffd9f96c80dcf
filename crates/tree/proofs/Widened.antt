-- A write to a node that changes nothing but room.
use Rattle.std.proofs.Common.{◌≡◌, ℕ, ◌≤◌, List, length, set, Option, Some, refl, sym, ap, ◌∙◌, subst, arith, length-set}
use Rattle.std.specs.Prelude.{slice_get}
use Rattle.semantics.specs.Ids.{OpId}
use Rattle.semantics.specs.Elements.{Name}
use Rattle.columns.specs.Entries.{AreIndicesIn}
use Rattle.columns.specs.Flagged.{Flagged}
use Rattle.columns.specs.Numbered.{Numbered}
use Rattle.tree.specs.declared.node.Node.{Node}
use Rattle.tree.specs.Nodes.{IsTree, Kept, Links, IsIndexedNode, SameView, flags_of, empty_below_of, is_written, linked_by, links, links_of}
use Rattle.tree.specs.Nodes.{order_of}
use Rattle.tree.specs.Nodes.{order_room, presence_of, presence_room, register_of, register_room, tagged, valued, visible_of}
use Rattle.tree.proofs.Shape.{tree_links}
use Rattle.tree.proofs.NodeWrites.{indexed_at, indexed_set, set_each}
use Rattle.tree.proofs.SameViews.{context_view, flagged_view, empty_below_view, visible_view}

-- m is n with no less room
pub record Wider (n m : Node) : Type 0 where
  pub children : (m.fields.entries ≡ n.fields.entries) × (m.items.entries ≡ n.items.entries)
  pub presence : (m.presence.entries ≡ n.presence.entries) × (m.presence.indices ≡ n.presence.indices)
      × (n.presence.room ≤ m.presence.room)
  pub register : (m.register.entries ≡ n.register.entries) × (m.register.indices ≡ n.register.indices)
      × (n.register.room ≤ m.register.room)
  pub order : (m.order.items ≡ n.order.items) × (m.order.visible ≡ n.order.visible) × (n.order.room ≤ m.order.room)
  pub empty_below : m.empty_below ≡ n.empty_below
  pub flags : m.fields.flags ≡ n.fields.flags
  pub written : m.is_written ≡ n.is_written

-- a node whose children are the same has no less room
pub wider_children : (n : Node) (f : Flagged Name) (i : Numbered OpId) → f.entries ≡ n.fields.entries
    → f.flags ≡ n.fields.flags → i.entries ≡ n.items.entries
    → Wider n (record n { fields = f; items = i })
wider_children n f i e s d = record {
  children = (e, d);
  presence = (refl, refl, omega arith);
  register = (refl, refl, omega arith);
  order = (refl, refl, omega arith);
  empty_below = refl;
  flags = s;
  written = refl;
}

pub links_pair : (fs gs : List (Name × ℕ)) (xs ys : List (OpId × ℕ)) → fs ≡ gs → xs ≡ ys → ◌≡◌ {A = Links} (fs, xs) (gs, ys)
links_pair fs gs xs ys p q = λ i. (p i, q i)

-- what a node's write leaves alone, each node keeps
pub same_set : {A : Type 0} (f : Option Node → A) (ns : List Node) (at : ℕ) (n m : Node) → slice_get ns at ≡ Some n
    → f (Some m) ≡ f (Some n) → (i : ℕ) → f (slice_get ns i) ≡ f (slice_get (set ns at m) i)
same_set f ns at n m g h = set_each (λ o i. f (slice_get ns i) ≡ f o) ns at n m g (ap f g ∙ sym h) (λ i. refl)

room_set : (f : Option Node → ℕ) (ns : List Node) (at : ℕ) (n m : Node) → slice_get ns at ≡ Some n → f (Some n) ≤ f (Some m) → (i : ℕ)
    → f (slice_get ns i) ≤ f (slice_get (set ns at m) i)
room_set f ns at n m g h = set_each (λ o i. f (slice_get ns i) ≤ f o) ns at n m g (subst (λ o. f o ≤ f (Some m)) (sym g) h)
    (λ i. omega arith)

wider_indexed : (table : List ℕ) (n m : Node) → Wider n m → IsIndexedNode table (Some n) → IsIndexedNode table (Some m)
wider_indexed table n m w b = (
  subst (λ es. AreIndicesIn table es m.presence.indices) (sym w.presence.0)
      (subst (AreIndicesIn table n.presence.entries) (sym w.presence.1) b.0),
  subst (λ es. AreIndicesIn table es m.register.indices) (sym w.register.0)
      (subst (AreIndicesIn table n.register.entries) (sym w.register.1) b.1),
)

pub wider_links : (ns : List Node) (at : ℕ) (n m : Node) → slice_get ns at ≡ Some n → Wider n m → (i : ℕ)
    → links ns i ≡ links (set ns at m) i
wider_links ns at n m g w = same_set links_of ns at n m g
    (links_pair m.fields.entries n.fields.entries m.items.entries n.items.entries w.children.0 w.children.1)

pub kept_set : (ns : List Node) (at : ℕ) (n m : Node) → slice_get ns at ≡ Some n → IsTree ns → Wider n m → Kept ns (set ns at m)
kept_set ns at n m g t w =
    let v : SameView ns (set ns at m) = record {
      links = wider_links ns at n m g w;
      presence = same_set presence_of ns at n m g (ap tagged w.presence.0);
      register = same_set register_of ns at n m g (ap valued w.register.0);
      order = same_set order_of ns at n m g w.order.0;
      written = same_set is_written ns at n m g w.written;
    } in
    let long : length ns ≡ length (set ns at m) = sym (length-set ns at m) in
    record {
      tree = tree_links ns (set ns at m) long v.links t;
      same = sym (context_view ns (set ns at m) v);
      visible = λ e. sym (visible_view ns (set ns at m) v.links (same_set visible_of ns at n m g w.order.1) e);
      empty_below = λ e. sym (empty_below_view ns (set ns at m) v.links (same_set empty_below_of ns at n m g w.empty_below) e);
      flagged = λ e k. sym (flagged_view ns (set ns at m) v.links (same_set flags_of ns at n m g w.flags) e k);
      grows = record {
        count = omega arith;
        children = λ i k j h. sym (ap (λ l. linked_by l k) (v.links i)) ∙ h;
        presence = room_set presence_room ns at n m g w.presence.2;
        register = room_set register_room ns at n m g w.register.2;
        order = room_set order_room ns at n m g w.order.2;
      };
      indexed = λ table b. indexed_set table ns at n m g b (wider_indexed table n m w (indexed_at table ns at n g b));
    }
