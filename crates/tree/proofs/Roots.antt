-- One empty node is the tree of the empty document.
use Rattle.std.proofs.Common.{◌≡◌, ◌≤◌, ℕ, List, [], ◌∷◌, length, Option, Some, None, refl, sym, ap, ◌∙◌, subst, arith}
use Rattle.std.specs.Prelude.{IsTrue}
use Rattle.std.specs.FinMap.{is_sorted}
use Rattle.std.proofs.lemmas.Option.{none-some}
use Rattle.ids.specs.Members.{AreDistinct}
use Rattle.semantics.specs.Ids.{id_cmp}
use Rattle.semantics.specs.Elements.{Field, Item, name_cmp}
use Rattle.semantics.specs.Paths.{Hop, FieldHop, ItemHop}
use Rattle.semantics.specs.Context.{empty}
use Rattle.semantics.specs.DocumentAnswer.{is_any, visible_items}
use Rattle.tree.specs.declared.node.Node.{Node}
use Rattle.tree.specs.Nodes.{IsEmptyNode, IsTree, Links, IsIndexedNode, child_number, context, linked_by, links, links_of, names_in}
use Rattle.tree.specs.Nodes.{node_in, number, order_of, presence_of, register_of, visible_of}
use Rattle.tree.specs.Nested.{IsNested}
use Rattle.tree.specs.Trees.{IsPlanted}
use Rattle.tree.proofs.Contexts.{context_same}
use Rattle.tree.proofs.Nested.{nested_empty}
use Rattle.tree.proofs.SameViews.{context_view}
use Rattle.tree.proofs.Pushed.{empty_indexed, push_each, push_view, push_visible}

nothing_there : (o : Option ℕ) → node_in [] o ≡ None
nothing_there None = refl
nothing_there (Some i) = refl

no_nodes : context [] ≡ empty
no_nodes = context_same _ _
    (λ x. ap presence_of (nothing_there (number [] x)))
    (λ x. ap register_of (nothing_there (number [] x)))
    (λ x. ap (λ o. names_in [] (links_of o).0) (nothing_there (number [] x)))
    (λ x. ap order_of (nothing_there (number [] x)))

module _ (n : Node) (e : IsEmptyNode n) where
  pub root_empty : context (n ∷ []) ≡ empty
  root_empty = sym (context_view [] (n ∷ []) (push_view [] n e)) ∙ no_nodes

  no_links : (i : ℕ) → ◌≡◌ {A = Links} ([], []) (links (n ∷ []) i)
  no_links i = (push_view [] n e).links i

  no_child : (i : ℕ) (k : Hop) (j : ℕ) → child_number (n ∷ []) i k ≡ Some j → ⊥
  no_child i (FieldHop m) j c = none-some j (ap (λ l. linked_by l (FieldHop m)) (no_links i) ∙ c)
  no_child i (ItemHop a) j c = none-some j (ap (λ l. linked_by l (ItemHop a)) (no_links i) ∙ c)

  root_tree : IsTree (n ∷ [])
  root_tree = record {
    rooted = omega arith;
    rising = λ i k j c. absurd (no_child i k j c);
    one_parent = λ i k h l j c d. absurd (no_child i k j c);
    sorted_names = λ i. subst (λ (l : Links). IsTrue (is_sorted name_cmp l.0)) (no_links i) refl;
    sorted_ids = λ i. subst (λ (l : Links). IsTrue (is_sorted id_cmp l.1)) (no_links i) refl;
  }

  pub root_planted : (table column : List ℕ) → AreDistinct table → length table ≤ length column → IsPlanted table (n ∷ []) column
  root_planted table column d wide = record {
    distinct = d;
    tree = root_tree;
    nested = subst IsNested (sym root_empty) nested_empty;
    shown = λ x. sym (push_visible [] n e x) ∙ ap visible_of (nothing_there (number [] x)) ∙ sym (ap (λ C. visible_items C x) root_empty);
    empty = record {
      items = λ l a lt. ap (λ C. is_any (C.presence (Item l a))) root_empty;
      fields = λ x k low. ap (λ C. is_any (C.presence (Field x k))) root_empty;
    };
    indexed = push_each (λ o i. IsIndexedNode table o) n (λ i h. empty_indexed table n e) [] (λ i. tt);
    wide = wide;
  }
