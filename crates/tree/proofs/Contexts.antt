-- What a write to one node does to the context.
use Rattle.std.proofs.Common.{◌≡◌, ℕ, Bool, true, false, cond, List, [], ◌∷◌, set, Option, Some, None, refl, sym, ap, ◌∙◌, inl, inr}
use Rattle.std.specs.Prelude.{slice_get}
use Rattle.std.proofs.lemmas.Bool.{cases_eq}
use Rattle.std.specs.FinMap.{put}
use Rattle.semantics.specs.Ids.{OpId, IdSet, id_cmp}
use Rattle.semantics.specs.Elements.{Element, Name, Scalar, Tag, is_same, is_under}
use Rattle.semantics.specs.Context.{Context, without, clear, insert_after}
use Rattle.semantics.proofs.Orders.{same_elements}
use Rattle.tree.specs.declared.node.Node.{Node}
use Rattle.tree.specs.Nodes.{links_of, number, node_in, node_at, presence_of, register_of, order_of, is_written, names_in, context, IsTree}
use Rattle.tree.specs.Writes.{clear_own, mark, registered, linked}
use Rattle.tree.proofs.ListReads.{get_same, get_other, get_inside}
use Rattle.tree.proofs.Shape.{number_links, links_each, node_set, node_found, under_none}

-- the context with what stands at e taken from n
abbrev pub with_node : Context → Element → Node → Context
with_node C e n = record C {
  presence = λ x. cond (is_same x e) (presence_of (Some n)) (C.presence x);
  register = λ x. cond (is_same x e) (register_of (Some n)) (C.register x);
  order = λ x. cond (is_same x e) (order_of (Some n)) (C.order x);
}

pub context_same : (C D : Context) → ((x : Element) → C.presence x ≡ D.presence x) → ((x : Element) → C.register x ≡ D.register x)
    → ((x : Element) → C.fields x ≡ D.fields x) → ((x : Element) → C.order x ≡ D.order x) → C ≡ D
context_same C D p r n o = λ i. record { presence = λ x. p x i; register = λ x. r x i; fields = λ x. n x i; order = λ x. o x i }

pub names_same : (ns ms : List Node) → ((i : ℕ) → is_written (slice_get ns i) ≡ is_written (slice_get ms i)) → (fs : List (Name × ℕ))
    → names_in ns fs ≡ names_in ms fs
names_same ns ms h [] = refl
names_same ns ms h (f ∷ fs) = ap (λ b. cond b ((f.0, tt) ∷ names_in ns fs) (names_in ns fs)) (h f.1)
    ∙ ap (λ xs. cond (is_written (slice_get ms f.1)) ((f.0, tt) ∷ xs) xs) (names_same ns ms h fs)

named_set : (ns : List Node) (i : ℕ) (n m : Node) → slice_get ns i ≡ Some n → m.is_written ≡ n.is_written → (j : ℕ)
    → is_written (slice_get (set ns i m) j) ≡ is_written (slice_get ns j)
named_set ns i n m g d j = elim (cases_eq j i) [
  | inl e ↦ ap (λ k. is_written (slice_get (set ns i m) k)) e ∙ ap is_written (get_same ns i m (get_inside ns i n g)) ∙ d
      ∙ sym (ap is_written g) ∙ ap (λ k. is_written (slice_get ns k)) (sym e)
  | inr n ↦ ap is_written (get_other ns i m j n)
]

pub picked : {A : Type 0} (f : Option Node → A) (b : Bool) (m : Node) (o : Option Node) → f (cond b (Some m) o) ≡ cond b (f (Some m)) (f o)
picked f true m o = refl
picked f false m o = refl

-- a write to a node that leaves its children and its mark alone
pub context_set : (ns : List Node) → IsTree ns → (e : Element) (i : ℕ) (n m : Node) → number ns e ≡ Some i → slice_get ns i ≡ Some n
    → links_of (Some m) ≡ links_of (Some n) → m.is_written ≡ n.is_written → context (set ns i m) ≡ with_node (context ns) e m
context_set ns t e i n m at g l d =
    let there : (x : Element) → node_at (set ns i m) x ≡ cond (is_same x e) (Some m) (node_at ns x) = node_set ns t e i n m at g l in
    let linked : (x : Element)
    → links_of (node_at (set ns i m) x)
    ≡ links_of (node_at ns x) = λ x. same_links x (number ns x)
    (ap (node_in (set ns i m)) (sym (number_links ns (set ns i m) (links_each ns i n m g l) x))) in
    context_same _ _
    (λ x. ap presence_of (there x) ∙ picked presence_of (is_same x e) m (node_at ns x))
    (λ x. ap register_of (there x) ∙ picked register_of (is_same x e) m (node_at ns x))
    (λ x. ap (λ k. names_in (set ns i m) k.0) (linked x) ∙ names_same (set ns i m) ns (named_set ns i n m g d) (links_of (node_at ns x)).0)
    (λ x. ap order_of (there x) ∙ picked order_of (is_same x e) m (node_at ns x)) where
      same_links : (x : Element) (o : Option ℕ) → node_at (set ns i m) x ≡ node_in (set ns i m) o
          → links_of (node_at (set ns i m) x) ≡ links_of (node_in ns o)
      same_links x None p = ap links_of p
      same_links x (Some j) p = ap links_of p ∙ sym (links_each ns i n m g l j)

-- where x is e, both are what stands at e
pub at_one : {A : Type 0} (e x : Element) (v w : A) (f : Element → A) → v ≡ w → cond (is_same x e) v (f x) ≡ cond (is_same x e) w (f x)
at_one e x v w f h = ap (λ y. cond (is_same x e) y (f x)) h

pub own : {A : Type 0} (e x : Element) (f : Element → A) (h : A → A)
    → cond (is_same x e) (h (f e)) (f x) ≡ cond (is_same x e) (h (f x)) (f x)
own e x f h = elim (is_same x e) as
    (λ b. is_same x e ≡ b
    → cond b (h (f e)) (f x)
    ≡ cond b (h (f x)) (f x)) [ true ↦ λ p. ap (λ y. h (f y)) (sym (same_elements x e p)) | false ↦ λ p. refl ] refl

pub itself : {A : Type 0} (e x : Element) (f : Element → A) → cond (is_same x e) (f e) (f x) ≡ f x
itself e x f = own e x f (λ a. a) ∙ elim (is_same x e) as (λ b. cond b (f x) (f x) ≡ f x) [ true ↦ refl | false ↦ refl ]

pub cleared_with : (ns : List Node) (e : Element) (i : ℕ) (n m : Node) (S : IdSet) → number ns e ≡ Some i → slice_get ns i ≡ Some n
    → presence_of (Some m) ≡ without S (presence_of (Some n)) → register_of (Some m) ≡ without S (register_of (Some n))
    → m.order.items ≡ n.order.items
    → with_node (context ns) e m ≡ clear_own (context ns) e S
cleared_with ns e i n m S at g p r o =
    let here : node_at ns e ≡ Some n = node_found ns e i n at g in
    context_same _ _
    (λ x. at_one e x _ _ (context ns).presence (p ∙ ap (λ k. without S (presence_of k)) (sym here))
    ∙ own e x (context ns).presence (without S))
    (λ x. at_one e x _ _ (context ns).register (r ∙ ap (λ k. without S (register_of k)) (sym here))
    ∙ own e x (context ns).register (without S))
    (λ x. refl)
    (λ x. at_one e x _ _ (context ns).order (o ∙ ap order_of (sym here)) ∙ itself e x (context ns).order)

pub marked_with : (ns : List Node) (e : Element) (i : ℕ) (n m : Node) (a : OpId) (k : Tag) → number ns e ≡ Some i → slice_get ns i ≡ Some n
    → presence_of (Some m) ≡ put id_cmp a k (presence_of (Some n)) → register_of (Some m) ≡ register_of (Some n)
    → m.order.items ≡ n.order.items
    → with_node (context ns) e m ≡ mark (context ns) e a k
marked_with ns e i n m a k at g p r o =
    let here : node_at ns e ≡ Some n = node_found ns e i n at g in
    context_same _ _
    (λ x. at_one e x _ _ (context ns).presence (p ∙ ap (λ q. put id_cmp a k (presence_of q)) (sym here))
    ∙ own e x (context ns).presence (put id_cmp a k))
    (λ x. at_one e x _ _ (context ns).register (r ∙ ap register_of (sym here)) ∙ itself e x (context ns).register)
    (λ x. refl)
    (λ x. at_one e x _ _ (context ns).order (o ∙ ap order_of (sym here)) ∙ itself e x (context ns).order)

pub registered_with : (ns : List Node) (e : Element) (i : ℕ) (n m : Node) (a : OpId) (s : Scalar) → number ns e ≡ Some i
    → slice_get ns i ≡ Some n
    → presence_of (Some m) ≡ presence_of (Some n) → register_of (Some m) ≡ put id_cmp a s (register_of (Some n))
    → m.order.items ≡ n.order.items
    → with_node (context ns) e m ≡ registered (context ns) e a (Some s)
registered_with ns e i n m a s at g p r o =
    let here : node_at ns e ≡ Some n = node_found ns e i n at g in
    context_same _ _
    (λ x. at_one e x _ _ (context ns).presence (p ∙ ap presence_of (sym here)) ∙ itself e x (context ns).presence)
    (λ x. at_one e x _ _ (context ns).register (r ∙ ap (λ q. put id_cmp a s (register_of q)) (sym here))
    ∙ own e x (context ns).register (put id_cmp a s))
    (λ x. refl)
    (λ x. at_one e x _ _ (context ns).order (o ∙ ap order_of (sym here)) ∙ itself e x (context ns).order)

nothing_cleared : {X : Type 0} (ns : List Node) (e : Element) (S : IdSet) (f : Option Node → List (OpId × X)) → f None ≡ []
    → number ns e ≡ None → (x : Element) → f (node_at ns x) ≡ cond (is_under x e) (without S (f (node_at ns x))) (f (node_at ns x))
nothing_cleared ns e S f none p x = elim (is_under x e) as
    (λ b. is_under x e ≡ b → f (node_at ns x) ≡ cond b (without S (f (node_at ns x))) (f (node_at ns x))) [
      | true ↦ λ u. let q = ap (λ o. f (node_in ns o)) (under_none ns e p x u) ∙ none in q ∙ sym (ap (without S) q)
      | false ↦ λ u. refl
    ] refl

pub clear_none : (ns : List Node) (e : Element) (S : IdSet) → number ns e ≡ None → context ns ≡ clear (context ns) e S
clear_none ns e S p = context_same _ _ (nothing_cleared ns e S presence_of refl p) (nothing_cleared ns e S register_of refl p) (λ x. refl)
    (λ x. refl)

pub linked_with : (ns : List Node) (e : Element) (i : ℕ) (n m : Node) (p : Option OpId) (a : OpId) → number ns e ≡ Some i
    → slice_get ns i ≡ Some n
    → presence_of (Some m) ≡ presence_of (Some n) → register_of (Some m) ≡ register_of (Some n)
    → m.order.items ≡ insert_after p a n.order.items
    → with_node (context ns) e m ≡ linked (context ns) e p a
linked_with ns e i n m p a at g q r o =
    let here : node_at ns e ≡ Some n = node_found ns e i n at g in
    context_same _ _
    (λ x. at_one e x _ _ (context ns).presence (q ∙ ap presence_of (sym here)) ∙ itself e x (context ns).presence)
    (λ x. at_one e x _ _ (context ns).register (r ∙ ap register_of (sym here)) ∙ itself e x (context ns).register)
    (λ x. refl)
    (λ x. at_one e x _ _ (context ns).order (o ∙ ap (λ k. insert_after p a (order_of k)) (sym here))
    ∙ own e x (context ns).order (insert_after p a))
