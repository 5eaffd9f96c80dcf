-- Which node an element has.
use Rattle.std.proofs.Common.{◌≡◌, ℕ, ◌<◌, true, false, cond, ◌||◌, IsTrue, List, [], ◌∷◌, length, set, take, drop, Option, Some, None}
use Rattle.std.proofs.Common.{refl, sym, ap, ◌∙◌, subst, arith, inl, inr, length-set, true≢false}
use Rattle.std.specs.Prelude.{slice_get}
use Rattle.std.proofs.lemmas.Bool.{cases_eq}
use Rattle.std.proofs.lemmas.List.{take-append-drop}
use Rattle.std.specs.FinMap.{is_sorted}
use Rattle.semantics.specs.Ids.{OpId, id_cmp}
use Rattle.semantics.specs.Elements.{Element, Doc, Field, Item, Name, name_cmp, is_same, is_under}
use Rattle.semantics.specs.Paths.{Hop, FieldHop, ItemHop, child, down}
use Rattle.semantics.proofs.Orders.{element_itself, same_elements}
use Rattle.semantics.proofs.ElementPaths.{down-append}
use Rattle.tree.specs.declared.node.Node.{Node}
use Rattle.tree.specs.Nodes.{links_of, links, linked_by, child_number, next_number, number, node_in, node_at, visible_of, empty_below_of}
use Rattle.tree.specs.Nodes.{flags_of}
use Rattle.tree.specs.Nodes.{IsTree}
use Rattle.tree.specs.Nodes.{MoreRoom, SameChildren, SameLinks}
use Rattle.tree.specs.Writes.{end_of}
use Rattle.tree.proofs.ListReads.{get_same, get_other, get_inside}

-- where a step leads somewhere, it starts somewhere
pub next_some : (ns : List Node) (o : Option ℕ) (s : Hop) (j : ℕ) → next_number ns o s ≡ Some j
    → (i : ℕ) × (o ≡ Some i) × (child_number ns i s ≡ Some j)
next_some ns None s j e = cc
next_some ns (Some i) s j e = (i, refl, e)

next_same : (ns ms : List Node) → ((i : ℕ) → links ns i ≡ links ms i) → (o : Option ℕ) (s : Hop) → next_number ns o s ≡ next_number ms o s
next_same ns ms h None s = refl
next_same ns ms h (Some i) s = ap (λ l. linked_by l s) (h i)

-- where each number has the same children, each element has the same number
pub number_links : (ns ms : List Node) → ((i : ℕ) → links ns i ≡ links ms i) → (e : Element) → number ns e ≡ number ms e
number_links ns ms h Doc = refl
number_links ns ms h (Field e n) = ap (λ o. next_number ns o (FieldHop n)) (number_links ns ms h e)
    ∙ next_same ns ms h (number ms e) (FieldHop n)
number_links ns ms h (Item e a) = ap (λ o. next_number ns o (ItemHop a)) (number_links ns ms h e)
    ∙ next_same ns ms h (number ms e) (ItemHop a)

pub number_same : (ns ms : List Node) → SameLinks ns ms → (e : Element) → number ns e ≡ number ms e
number_same ns ms h e = number_links ns ms h.same e

-- a tree stays one where each number has the same children
pub tree_links : (ns ms : List Node) → length ns ≡ length ms → ((i : ℕ) → links ns i ≡ links ms i) → IsTree ns → IsTree ms
tree_links ns ms count same t = record {
  rooted = let r = t.rooted in omega arith;
  rising = λ i s j e. let r = t.rising i s j (ap (λ l. linked_by l s) (same i) ∙ e) in (r.0, omega arith);
  one_parent = λ i s k u j e f. t.one_parent i s k u j (ap (λ l. linked_by l s) (same i) ∙ e) (ap (λ l. linked_by l u) (same k) ∙ f);
  sorted_names = λ i. subst (λ l. IsTrue (is_sorted name_cmp l.0)) (same i) (t.sorted_names i);
  sorted_ids = λ i. subst (λ l. IsTrue (is_sorted id_cmp l.1)) (same i) (t.sorted_ids i);
}

pub tree_same : (ns ms : List Node) → SameLinks ns ms → IsTree ns → IsTree ms
tree_same ns ms h t = tree_links ns ms h.count h.same t

-- the root is the child of no node
no_root : (ns : List Node) → IsTree ns → (o : Option ℕ) (s : Hop) → next_number ns o s ≡ Some 0 → ⊥
no_root ns t o s e =
    let (i, p, q) = next_some ns o s 0 e in
    let r = t.rising i s 0 q in omega arith

-- hops with one name
pub name_is : (n m : Name) → FieldHop n ≡ FieldHop m → n ≡ m
name_is n m e = cc

id_is : (a b : OpId) → ItemHop a ≡ ItemHop b → a ≡ b
id_is a b e = cc

apart : (n : Name) (a : OpId) → FieldHop n ≡ ItemHop a → ⊥
apart n a e = cc

-- two steps lead to one node only where they are one step from one element
one_step : (ns : List Node) → IsTree ns → (e f : Element) (s u : Hop) (i : ℕ) → next_number ns (number ns e) s ≡ Some i
    → next_number ns (number ns f) u ≡ Some i → ((j : ℕ) → number ns e ≡ Some j → number ns f ≡ Some j → e ≡ f) → (e ≡ f) × (s ≡ u)
one_step ns t e f s u i p q above =
    let (k, ke, kc) = next_some ns (number ns e) s i p in
    let (h, he, hc) = next_some ns (number ns f) u i q in
    let same = t.one_parent k s h u i kc hc in (above k ke (he ∙ ap Some (sym same.0)), same.1)

-- two elements have one node only where they are one element
pub one_element : (ns : List Node) → IsTree ns → (e f : Element) (i : ℕ) → number ns e ≡ Some i → number ns f ≡ Some i → e ≡ f
one_element ns t Doc Doc i p q = refl
one_element ns t Doc (Field f m) i p q = absurd (no_root ns t (number ns f) (FieldHop m) (q ∙ sym p))
one_element ns t Doc (Item f b) i p q = absurd (no_root ns t (number ns f) (ItemHop b) (q ∙ sym p))
one_element ns t (Field e n) Doc i p q = absurd (no_root ns t (number ns e) (FieldHop n) (p ∙ sym q))
one_element ns t (Item e a) Doc i p q = absurd (no_root ns t (number ns e) (ItemHop a) (p ∙ sym q))
one_element ns t (Field e n) (Field f m) i p q =
    let (r, s) = one_step ns t e f (FieldHop n) (FieldHop m) i p q (one_element ns t e f) in
    λ j. Field (r j) (name_is n m s j)
one_element ns t (Item e a) (Item f b) i p q =
    let (r, s) = one_step ns t e f (ItemHop a) (ItemHop b) i p q (one_element ns t e f) in
    λ j. Item (r j) (id_is a b s j)
one_element ns t (Field e n) (Item f b) i p q = absurd
    (apart n b (one_step ns t e f (FieldHop n) (ItemHop b) i p q (one_element ns t e f)).1)
one_element ns t (Item e a) (Field f m) i p q = absurd
    (apart m a (sym (one_step ns t e f (ItemHop a) (FieldHop m) i p q (one_element ns t e f)).1))

-- a write to a node that leaves its children alone
pub links_each : (ns : List Node) (i : ℕ) (n m : Node) → slice_get ns i ≡ Some n → links_of (Some m) ≡ links_of (Some n) → (j : ℕ)
    → links ns j ≡ links (set ns i m) j
links_each ns i n m g l j = elim (cases_eq j i) [
  | inl e ↦ ap (λ k. links ns k) e ∙ ap links_of g ∙ sym l ∙ sym (ap links_of (get_same ns i m (get_inside ns i n g)))
      ∙ ap (λ k. links (set ns i m) k) (sym e)
  | inr n ↦ sym (ap links_of (get_other ns i m j n))
]

-- and its flags, those of its fields, and its bound of empty items
pub links_set : (ns : List Node) (i : ℕ) (n m : Node) → slice_get ns i ≡ Some n → links_of (Some m) ≡ links_of (Some n)
    → visible_of (Some m) ≡ visible_of (Some n) → empty_below_of (Some m) ≡ empty_below_of (Some n) → flags_of (Some m) ≡ flags_of (Some n)
    → SameLinks ns (set ns i m)
links_set ns i n m g l v d f = record {
  count = sym (length-set ns i m);
  same = links_each ns i n m g l;
  visible = each visible_of v;
  empty_below = each empty_below_of d;
  flags = each flags_of f;
}
  where
    each : {A : Type 0} (f : Option Node → A) → f (Some m) ≡ f (Some n) → (j : ℕ) → f (slice_get ns j) ≡ f (slice_get (set ns i m) j)
    each f same j = elim (cases_eq j i) [
      | inl e ↦ ap (λ k. f (slice_get ns k)) e ∙ ap f g ∙ sym same
          ∙ sym (ap f (get_same ns i m (get_inside ns i n g))) ∙ ap (λ k. f (slice_get (set ns i m) k)) (sym e)
      | inr o ↦ sym (ap f (get_other ns i m j o))
    ]

pub links_same : (ns : List Node) → SameLinks ns ns
links_same ns = record { count = refl; same = λ i. refl; visible = λ i. refl; empty_below = λ i. refl; flags = λ i. refl }

pub node_set : (ns : List Node) → IsTree ns → (e : Element) (i : ℕ) (n m : Node) → number ns e ≡ Some i → slice_get ns i ≡ Some n
    → links_of (Some m) ≡ links_of (Some n) → (x : Element) → node_at (set ns i m) x ≡ cond (is_same x e) (Some m) (node_at ns x)
node_set ns t e i n m at g l x =
    ap (node_in (set ns i m)) (sym (number_links ns (set ns i m) (links_each ns i n m g l) x)) ∙
    elim (is_same x e) as (λ b. is_same x e ≡ b → node_in (set ns i m) (number ns x) ≡ cond b (Some m) (node_at ns x)) [
      | true ↦ λ p. ap (λ y. node_in (set ns i m) (number ns y)) (same_elements x e p) ∙ ap (node_in (set ns i m)) at
          ∙ get_same ns i m (get_inside ns i n g)
      | false ↦ λ p. elsewhere (number ns x) refl p
    ] refl where
      elsewhere : (o : Option ℕ) → number ns x ≡ o → is_same x e ≡ false → node_in (set ns i m) o ≡ node_in ns o
      elsewhere None q p = refl
      elsewhere (Some j) q p = get_other ns i m j
          (λ k. absurd (true≢false (sym (ap (λ y. is_same y e) (one_element ns t x e i (q ∙ ap Some k) at) ∙ element_itself e) ∙ p)))

pub node_found : (ns : List Node) (e : Element) (i : ℕ) (n : Node) → number ns e ≡ Some i → slice_get ns i ≡ Some n → node_at ns e ≡ Some n
node_found ns e i n at g = ap (node_in ns) at ∙ g

pub links_trans : (a b c : List Node) → SameLinks a b → SameLinks b c → SameLinks a c
links_trans a b c p q = record {
  count = p.count ∙ q.count;
  same = λ i. p.same i ∙ q.same i;
  visible = λ i. p.visible i ∙ q.visible i;
  empty_below = λ i. p.empty_below i ∙ q.empty_below i;
  flags = λ i. p.flags i ∙ q.flags i;
}

pub children_same : (ns : List Node) → SameChildren ns ns
children_same ns = record { count = refl; same = λ i. refl }

pub children_trans : (a b c : List Node) → SameChildren a b → SameChildren b c → SameChildren a c
children_trans a b c p q = record { count = p.count ∙ q.count; same = λ i. p.same i ∙ q.same i }

pub children_linked : (ns ms : List Node) → SameLinks ns ms → SameChildren ns ms
children_linked ns ms h = record { count = h.count; same = h.same }

pub children_number : (ns ms : List Node) → SameChildren ns ms → (e : Element) → number ns e ≡ number ms e
children_number ns ms h e = number_links ns ms h.same e

pub children_tree : (ns ms : List Node) → SameChildren ns ms → IsTree ns → IsTree ms
children_tree ns ms h t = tree_links ns ms h.count h.same t

pub room_same : (ns : List Node) → MoreRoom ns ns
room_same ns = record { presence = λ i. omega arith; register = λ i. omega arith }

pub room_trans : (a b c : List Node) → MoreRoom a b → MoreRoom b c → MoreRoom a c
room_trans a b c p q = record {
  presence = λ i. let x = p.presence i in let y = q.presence i in omega arith;
  register = λ i. let x = p.register i in let y = q.register i in omega arith;
}

pub number_inside : (ns : List Node) → IsTree ns → (e : Element) (i : ℕ) → number ns e ≡ Some i → i < length ns
number_inside ns t Doc i p = let q : 0 ≡ i = some_zero i p in let r = t.rooted in omega arith where
  some_zero : (i : ℕ) → Some 0 ≡ Some i → 0 ≡ i
  some_zero i e = cc
number_inside ns t (Field e n) i p = let (k, q, c) = next_some ns (number ns e) (FieldHop n) i p in (t.rising k (FieldHop n) i c).1
number_inside ns t (Item e a) i p = let (k, q, c) = next_some ns (number ns e) (ItemHop a) i p in (t.rising k (ItemHop a) i c).1

pub number_extend : (ns : List Node) (e : Element) (s : Hop) → number ns (child e s) ≡ next_number ns (number ns e) s
number_extend ns e (FieldHop n) = refl
number_extend ns e (ItemHop a) = refl

pub number_child : (ns : List Node) (e : Element) (i : ℕ) (s : Hop) → number ns e ≡ Some i → number ns (child e s) ≡ child_number ns i s
number_child ns e i s p = number_extend ns e s ∙ ap (λ o. next_number ns o s) p

-- where a step leads nowhere, no longer path leads anywhere
lost : (ns : List Node) (e : Element) (steps : List Hop) → number ns e ≡ None → number ns (down e steps) ≡ None
lost ns e [] p = p
lost ns e (s ∷ ss) p = lost ns (child e s) ss (number_extend ns e s ∙ ap (λ o. next_number ns o s) p)

pub lost_at : (ns : List Node) (path : List Hop) (k : ℕ) → number ns (end_of (take k path)) ≡ None → number ns (end_of path) ≡ None
lost_at ns path k p =
    ap (λ xs. number ns (end_of xs)) (sym (take-append-drop k path))
    ∙ ap (number ns) (down-append Doc (take k path) (drop k path))
    ∙ lost ns (end_of (take k path)) (drop k path) p

-- beneath what isn't there, nothing is
pub under_none : (ns : List Node) (e : Element) → number ns e ≡ None → (x : Element) → is_under x e ≡ true → number ns x ≡ None
under_none ns e p Doc u = ap (number ns) (same_elements Doc e u) ∙ p
under_none ns e p (Field y n) u =
    elim (is_same (Field y n) e) as (λ b. is_same (Field y n) e ≡ b → (b || is_under y e) ≡ true → number ns (Field y n) ≡ None) [
      | true ↦ λ s v. ap (number ns) (same_elements (Field y n) e s) ∙ p
      | false ↦ λ s v. ap (λ o. next_number ns o (FieldHop n)) (under_none ns e p y v)
    ] refl u
under_none ns e p (Item y a) u =
    elim (is_same (Item y a) e) as (λ b. is_same (Item y a) e ≡ b → (b || is_under y e) ≡ true → number ns (Item y a) ≡ None) [
      | true ↦ λ s v. ap (number ns) (same_elements (Item y a) e s) ∙ p
      | false ↦ λ s v. ap (λ o. next_number ns o (ItemHop a)) (under_none ns e p y v)
    ] refl u
