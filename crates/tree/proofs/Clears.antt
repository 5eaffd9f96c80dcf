-- A clear of an element and of each of its children in turn is a clear of the whole.
use Rattle.std.proofs.Common.{◌≡◌, ℕ, ◌+◌, ◌<◌, Bool, true, false, cond, not, ◌||◌, List, [], ◌∷◌, ◌++◌, map, length, get_or, drop, Option}
use Rattle.std.proofs.Common.{Some, None, refl, sym, ap, ◌∙◌, inl, inr, true≢false}
use Rattle.std.specs.declared.cmp.Ordering.{Ordering}
use Rattle.std.specs.List.{list_any}
use Rattle.std.specs.FinMap.{find}
use Rattle.std.specs.Ordering.{eq_by_cmp}
use Rattle.std.proofs.lemmas.Bool.{or_cases, or_left, or_right, and_from}
use Rattle.std.proofs.lemmas.List.{drop_more}
use Rattle.std.proofs.lemmas.List.Folds.{list_any-append}
use Rattle.std.proofs.lemmas.Option.{same_Some}
use Rattle.semantics.specs.Ids.{OpId, IdSet, id_cmp}
use Rattle.semantics.specs.Elements.{Element, Doc, Field, Item, Name, name_cmp, is_same, is_under}
use Rattle.semantics.specs.Paths.{Hop, FieldHop, ItemHop, child}
use Rattle.semantics.specs.Context.{Context, without, clear}
use Rattle.semantics.proofs.Orders.{element_itself, same_elements}
use Rattle.tree.specs.declared.node.Node.{Node}
use Rattle.tree.specs.Nodes.{Links, links, linked_by, child_number, next_number, number, node_in, node_at, presence_of, register_of}
use Rattle.tree.specs.Nodes.{context}
use Rattle.tree.specs.Writes.{clear_own, fields_of, items_of}
use Rattle.tree.proofs.Shape.{next_some}
use Rattle.tree.proofs.Contexts.{context_same}

without_twice : {X : Type 0} (S : IdSet) (es : List (OpId × X)) → without S (without S es) ≡ without S es
without_twice S [] = refl
without_twice S (e ∷ es) = elim (S e.0) as
    (λ b. S e.0 ≡ b → without S (cond (not b) (e ∷ without S es) (without S es)) ≡ cond (not b) (e ∷ without S es) (without S es)) [
      | true ↦ λ p. without_twice S es
      | false ↦ λ p. ap (λ b. cond (not b) (e ∷ without S (without S es)) (without S (without S es))) p ∙ ap (λ xs. e ∷ xs)
          (without_twice S es)
    ] refl

-- what a clear leaves, where it reaches or not
abbrev left : {X : Type 0} → IdSet → Bool → List (OpId × X) → List (OpId × X)
left S b es = cond b (without S es) es

left_twice : {X : Type 0} (S : IdSet) (a b : Bool) (es : List (OpId × X)) → left S b (left S a es) ≡ left S (a || b) es
left_twice S true true es = without_twice S es
left_twice S true false es = refl
left_twice S false b es = refl

-- each of these is cleared, in turn
abbrev pub clear_each : Context → List Element → IdSet → Context
clear_each C [] S = C
clear_each C (e ∷ es) S = clear_each (clear C e S) es S

presence_each : (C : Context) (es : List Element) (S : IdSet) (x : Element)
    → (clear_each C es S).presence x ≡ left S (list_any (is_under x) es) (C.presence x)
presence_each C [] S x = refl
presence_each C (e ∷ es) S x = presence_each (clear C e S) es S x ∙ left_twice S (is_under x e) (list_any (is_under x) es) (C.presence x)

register_each : (C : Context) (es : List Element) (S : IdSet) (x : Element)
    → (clear_each C es S).register x ≡ left S (list_any (is_under x) es) (C.register x)
register_each C [] S x = refl
register_each C (e ∷ es) S x = register_each (clear C e S) es S x ∙ left_twice S (is_under x e) (list_any (is_under x) es) (C.register x)

fields_each : (C : Context) (es : List Element) (S : IdSet) (x : Element) → (clear_each C es S).fields x ≡ C.fields x
fields_each C [] S x = refl
fields_each C (e ∷ es) S x = fields_each (clear C e S) es S x

order_each : (C : Context) (es : List Element) (S : IdSet) (x : Element) → (clear_each C es S).order x ≡ C.order x
order_each C [] S x = refl
order_each C (e ∷ es) S x = order_each (clear C e S) es S x

clear_each-append : (C : Context) (es fs : List Element) (S : IdSet) → clear_each (clear_each C es S) fs S ≡ clear_each C (es ++ fs) S
clear_each-append C [] fs S = refl
clear_each-append C (e ∷ es) fs S = clear_each-append (clear C e S) es fs S

-- one turn of the loop over the fields
pub turn_field : (C : Context) (e : Element) (fs : List (Name × ℕ)) (S : IdSet) (k : ℕ) (d : Name × ℕ) → k < length fs
    → clear_each C (fields_of e (drop k fs)) S ≡ clear_each (clear C (Field e (get_or fs k d).0) S) (fields_of e (drop (k + 1) fs)) S
turn_field C e fs S k d h = ap (λ xs. clear_each C (fields_of e xs) S) (drop_more fs k d h)

-- one turn of the loop over the items
pub turn_item : (C : Context) (e : Element) (xs : List (OpId × ℕ)) (S : IdSet) (k : ℕ) (d : OpId × ℕ) → k < length xs
    → clear_each C (items_of e (drop k xs)) S ≡ clear_each (clear C (Item e (get_or xs k d).0) S) (items_of e (drop (k + 1) xs)) S
turn_item C e xs S k d h = ap (λ ys. clear_each C (items_of e ys) S) (drop_more xs k d h)

-- the elements of the children
abbrev pub beneath : Element → Links → List Element
beneath e l = fields_of e l.0 ++ items_of e l.1

pub under_itself : (e : Element) → is_under e e ≡ true
under_itself Doc = refl
under_itself (Field e n) = or_left _ _ (element_itself (Field e n))
under_itself (Item e a) = or_left _ _ (element_itself (Item e a))

pub any_more : (p q : Element → Bool) → ((x : Element) → p x ≡ true → q x ≡ true) → (es : List Element) → list_any p es ≡ true
    → list_any q es ≡ true
any_more p q h [] e = e
any_more p q h (x ∷ xs) e = elim
    (or_cases (p x) (list_any p xs) e) [ inl a ↦ or_left (q x) _ (h x a) | inr b ↦ or_right (q x) _ (any_more p q h xs b) ]

-- what is linked by a key stands under one of the elements of the links
any_linked : {K : Type 0} (R : K → K → Ordering) (g : K → Element) → ((a b : K) → eq_by_cmp R a b ≡ true → is_under (g a) (g b) ≡ true)
    → (a : K) (j : ℕ) (ls : List (K × ℕ)) → find R a ls ≡ Some j → list_any (is_under (g a)) (map (λ l. g l.0) ls) ≡ true
any_linked R g tied a j [] p = cc
any_linked R g tied a j (l ∷ ls) p =
    elim (eq_by_cmp R a l.0) as
    (λ b. eq_by_cmp R a l.0 ≡ b → cond b (Some l.1) (find R a ls) ≡ Some j
    → list_any (is_under (g a)) (map (λ l. g l.0) (l ∷ ls)) ≡ true) [
      | true ↦ λ q r. or_left _ _ (tied a l.0 q)
      | false ↦ λ q r. or_right (is_under (g a) (g l.0)) _ (any_linked R g tied a j ls r)
    ] refl p

pub linked_there : (e : Element) (l : Links) (k : Hop) (j : ℕ) → linked_by l k ≡ Some j
    → list_any (is_under (child e k)) (beneath e l) ≡ true
linked_there e l (FieldHop n) j p =
    list_any-append (is_under (Field e n)) (fields_of e l.0) (items_of e l.1)
    ∙ or_left _ _ (any_linked name_cmp (Field e) (λ a b q. or_left _ _ (and_from _ _ q (element_itself e))) n j l.0 p)
linked_there e l (ItemHop a) j p =
    list_any-append (is_under (Item e a)) (fields_of e l.0) (items_of e l.1)
    ∙ or_right (list_any (is_under (Item e a)) (fields_of e l.0)) _
    (any_linked id_cmp (Item e) (λ a b q. or_left _ _ (and_from _ _ q (element_itself e))) a j l.1 p)

pub under_step : (y e : Element) (k : Hop) → is_under (child y k) e ≡ (is_same (child y k) e || is_under y e)
under_step y e (FieldHop n) = refl
under_step y e (ItemHop a) = refl

module _ (ns : List Node) (e : Element) (i : ℕ) (at : number ns e ≡ Some i) where
  -- a child of what is e, or stands under one of its children, stands under one of them
  pub deeper : (y : Element) (k : Hop) (j : ℕ) → (h : ℕ) × (number ns y ≡ Some h) × (child_number ns h k ≡ Some j)
      → ((h : ℕ) → number ns y ≡ Some h → (is_same y e || list_any (is_under y) (beneath e (links ns i))) ≡ true)
      → list_any (is_under (child y k)) (beneath e (links ns i)) ≡ true
  deeper y k j (h, hp, hc) at_or_under = elim (or_cases (is_same y e) (list_any (is_under y) (beneath e (links ns i))) (at_or_under h hp)) [
    | inl s ↦
        let q : y ≡ e = same_elements y e s in
        let here : h ≡ i = same_Some h i (sym hp ∙ ap (number ns) q ∙ at) in
        ap (λ z. list_any (is_under (child z k)) (beneath e (links ns i))) q
        ∙ linked_there e (links ns i) k j (ap (λ m. linked_by (links ns m) k) (sym here) ∙ hc)
    | inr w ↦ any_more (is_under y) (is_under (child y k)) (λ z b. under_step y z k ∙ or_right (is_same (child y k) z) _ b)
        (beneath e (links ns i)) w
  ]

  step : (y : Element) (k : Hop) (j : ℕ) → next_number ns (number ns y) k ≡ Some j
      → ((h : ℕ) → number ns y ≡ Some h → is_under y e ≡ true → (is_same y e || list_any (is_under y) (beneath e (links ns i))) ≡ true)
      → (is_same (child y k) e || is_under y e) ≡ true
      → (is_same (child y k) e || list_any (is_under (child y k)) (beneath e (links ns i))) ≡ true
  step y k j p above u = elim (or_cases (is_same (child y k) e) (is_under y e) u) [
    | inl s ↦ or_left _ _ s
    | inr v ↦ or_right (is_same (child y k) e) _ (deeper y k j (next_some ns (number ns y) k j p) (λ h hp. above h hp v))
  ]

  -- what has a node under e is e, or stands under one of its children
  pub under_child : (x : Element) (j : ℕ) → number ns x ≡ Some j → is_under x e ≡ true
      → (is_same x e || list_any (is_under x) (beneath e (links ns i))) ≡ true
  under_child Doc j p u = or_left _ _ u
  under_child (Field y n) j p u = step y (FieldHop n) j p (under_child y) u
  under_child (Item y a) j p u = step y (ItemHop a) j p (under_child y) u

parent_same : (y e : Element) (k l : Hop) → child y k ≡ child e l → y ≡ e
parent_same y e (FieldHop n) (FieldHop m) p = cc
parent_same y e (FieldHop n) (ItemHop b) p = cc
parent_same y e (ItemHop a) (FieldHop m) p = cc
parent_same y e (ItemHop a) (ItemHop b) p = cc

no_child : (e : Element) (l : Hop) → is_same Doc (child e l) ≡ false
no_child e (FieldHop n) = refl
no_child e (ItemHop a) = refl

-- what stands under a child stands under its parent
pub under_parent : (x e : Element) (l : Hop) → is_under x (child e l) ≡ true → is_under x e ≡ true
under_parent Doc e l u = absurd (true≢false (sym u ∙ no_child e l))
under_parent (Field y n) e l u = elim (or_cases (is_same (Field y n) (child e l)) (is_under y (child e l)) u) [
  | inl s ↦ or_right (is_same (Field y n) e) _
      (ap (λ z. is_under z e) (parent_same y e (FieldHop n) l (same_elements (Field y n) (child e l) s)) ∙ under_itself e)
  | inr v ↦ or_right (is_same (Field y n) e) _ (under_parent y e l v)
]
under_parent (Item y a) e l u = elim (or_cases (is_same (Item y a) (child e l)) (is_under y (child e l)) u) [
  | inl s ↦ or_right (is_same (Item y a) e) _
      (ap (λ z. is_under z e) (parent_same y e (ItemHop a) l (same_elements (Item y a) (child e l) s)) ∙ under_itself e)
  | inr v ↦ or_right (is_same (Item y a) e) _ (under_parent y e l v)
]

any_gives : {A : Type 0} (p : Element → Bool) (g : A → Element) (Q : Type 0) → ((y : A) → p (g y) ≡ true → Q) → (ys : List A)
    → list_any p (map g ys) ≡ true → Q
any_gives p g Q h [] e = absurd (true≢false (sym e))
any_gives p g Q h (y ∷ ys) e = elim (or_cases (p (g y)) (list_any p (map g ys)) e) [ inl a ↦ h y a | inr b ↦ any_gives p g Q h ys b ]

within_under : (e : Element) (l : Links) (x : Element) → (is_same x e || list_any (is_under x) (beneath e l)) ≡ true → is_under x e ≡ true
within_under e l x w = elim (or_cases (is_same x e) (list_any (is_under x) (beneath e l)) w) [
  | inl s ↦ ap (λ z. is_under z e) (same_elements x e s) ∙ under_itself e
  | inr v ↦ elim
      (or_cases (list_any (is_under x) (fields_of e l.0)) (list_any (is_under x) (items_of e l.1))
      (sym (list_any-append (is_under x) (fields_of e l.0) (items_of e l.1)) ∙ v)) [
        | inl f ↦ any_gives (is_under x) (λ (f : Name × ℕ). Field e f.0) (is_under x e ≡ true) (λ f u. under_parent x e (FieldHop f.0) u)
            l.0 f
        | inr a ↦ any_gives (is_under x) (λ (a : OpId × ℕ). Item e a.0) (is_under x e ≡ true) (λ a u. under_parent x e (ItemHop a.0) u)
            l.1 a
      ]
]

same_bools : (a b : Bool) → (a ≡ true → b ≡ true) → (b ≡ true → a ≡ true) → a ≡ b
same_bools true b f g = sym (f refl)
same_bools false true f g = g refl
same_bools false false f g = refl

left_none : {X : Type 0} (S : IdSet) (b : Bool) → left {X = X} S b [] ≡ []
left_none S true = refl
left_none S false = refl

or_turned : (a b : Bool) → (a || b) ≡ (b || a)
or_turned true true = refl
or_turned true false = refl
or_turned false true = refl
or_turned false false = refl

-- a clear of all under an element's children, and then of the element, leaves what a clear of the whole leaves
module _ {X : Type 0} (ns : List Node) (e : Element) (i : ℕ) (at : number ns e ≡ Some i) (S : IdSet) (f : Option Node → List (OpId × X))
    (none : f None ≡ []) where
  whole : (x : Element)
      → left S (is_same x e) (left S (list_any (is_under x) (beneath e (links ns i))) (f (node_at ns x)))
      ≡ left S (is_under x e) (f (node_at ns x))
  whole x =
      left_twice S (list_any (is_under x) (beneath e (links ns i))) (is_same x e) (f (node_at ns x))
      ∙ ap (λ b. left S b (f (node_at ns x))) (or_turned (list_any (is_under x) (beneath e (links ns i))) (is_same x e))
      ∙ by (number ns x) refl
    where
      by : (o : Option ℕ) → number ns x ≡ o
          → left S (is_same x e || list_any (is_under x) (beneath e (links ns i))) (f (node_in ns o))
          ≡ left S (is_under x e) (f (node_in ns o))
      by None p = ap (left S _) none ∙ left_none S _ ∙ sym (left_none S _) ∙ ap (left S _) (sym none)
      by (Some j) p = ap (λ b. left S b (f (node_in ns (Some j))))
          (same_bools _ _ (within_under e (links ns i) x) (under_child ns e i at x j p))

pub clear_whole : (ns : List Node) (e : Element) (i : ℕ) (S : IdSet) → number ns e ≡ Some i
    → clear_own (clear_each (clear_each (context ns) (fields_of e (links ns i).0) S) (items_of e (links ns i).1) S) e S
    ≡ clear (context ns) e S
clear_whole ns e i S at =
    let C = context ns in
    let es = beneath e (links ns i) in
    ap (λ D. clear_own D e S) (clear_each-append C (fields_of e (links ns i).0) (items_of e (links ns i).1) S)
    ∙ context_same _ _
    (λ x. ap (left S (is_same x e)) (presence_each C es S x) ∙ whole ns e i at S presence_of refl x)
    (λ x. ap (left S (is_same x e)) (register_each C es S x) ∙ whole ns e i at S register_of refl x)
    (fields_each C es S)
    (order_each C es S)
