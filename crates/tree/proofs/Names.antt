-- What the names at an element become when a write goes through one of its fields.
use Rattle.std.proofs.Common.{◌≡◌, ◌≢◌, ℕ, ◌<◌, true, false, cond, IsTrue, List, [], ◌∷◌, length, get_or, set, Option, Some, None, refl}
use Rattle.std.proofs.Common.{sym, ap, ◌∙◌, true≢false}
use Rattle.std.specs.declared.cmp.Ordering.{Ordering}
use Rattle.std.specs.declared.cmp.Ordering.TheVariants.{Less, Equal, Greater}
use Rattle.std.specs.Prelude.{slice_get}
use Rattle.std.specs.Ordering.{is_eq, is_lt}
use Rattle.std.specs.List.{All}
use Rattle.std.proofs.lemmas.Bool.{and_parts}
use Rattle.std.proofs.lemmas.Cmp.{tied_itself}
use Rattle.std.proofs.lemmas.List.Elements.{All-nil, All-cons, All-head, All-tail}
use Rattle.std.specs.FinMap.{find, put, is_sorted}
use Rattle.std.specs.FinMap.Entries.{by_order, below_all}
use Rattle.std.proofs.lemmas.Option.{same_Some}
use Rattle.semantics.specs.Elements.{Element, Field, Name, name_cmp, is_same}
use Rattle.semantics.specs.Paths.{FieldHop}
use Rattle.semantics.proofs.Orders.{element_itself, same_elements, same_names, name_total, Less_from_test}
use Rattle.tree.specs.declared.node.Node.{Node}
use Rattle.tree.specs.Nodes.{links_of, links, child_number, number, node_in, node_at, presence_of, register_of, order_of, is_written}
use Rattle.tree.specs.Nodes.{names_in, context, IsTree}
use Rattle.tree.specs.Writes.{name_at}
use Rattle.tree.proofs.ListReads.{get_same, get_other, get_inside}
use Rattle.tree.proofs.Shape.{next_some, number_links, links_each, node_set, one_element, node_found, name_is}
use Rattle.tree.proofs.Links.{field_there}
use Rattle.tree.proofs.Contexts.{context_same, picked, itself}

names_other : (ns : List Node) (j : ℕ) (m : Node) (fs : List (Name × ℕ)) → All (λ f. f.1 ≢ j) fs → names_in (set ns j m) fs ≡ names_in ns fs
names_other ns j m [] h = refl
names_other ns j m (f ∷ fs) h =
    ap (λ o. cond (is_written o) ((f.0, tt) ∷ names_in (set ns j m) fs) (names_in (set ns j m) fs))
    (get_other ns j m f.1 (All-head (λ f. f.1 ≢ j) f fs h))
    ∙ ap (λ xs. cond (is_written (slice_get ns f.1)) ((f.0, tt) ∷ xs) xs) (names_other ns j m fs (All-tail (λ f. f.1 ≢ j) f fs h))

above : (x : Name) (fs : List (Name × ℕ)) → IsTrue (below_all name_cmp x fs) → All (λ f. name_cmp x f.0 ≡ Less) fs
above x [] h = All-nil (λ f. name_cmp x f.0 ≡ Less)
above x (f ∷ fs) h =
    let parts = and_parts (is_lt (name_cmp x f.0)) (below_all name_cmp x fs) h in
    All-cons (λ f. name_cmp x f.0 ≡ Less) f fs (Less_from_test _ parts.0) (above x fs parts.1)

-- where a name goes among others, by how it compares with the first
put_by : (n : Name) (f : Name × ℕ) (o : Ordering) (es : List (Name × Unit {0})) → name_cmp n f.0 ≡ o
    → put name_cmp n tt ((f.0, tt) ∷ es) ≡ by_order o ((n, tt) ∷ (f.0, tt) ∷ es) ((f.0, tt) ∷ es) ((f.0, tt) ∷ put name_cmp n tt es)
put_by n f o es h = ap (λ r. by_order r ((n, tt) ∷ (f.0, tt) ∷ es) ((f.0, tt) ∷ es) ((f.0, tt) ∷ put name_cmp n tt es)) h

-- a name that is smaller than all of them goes to the front
put_front : (ns : List Node) (n : Name) (fs : List (Name × ℕ)) → All (λ f. name_cmp n f.0 ≡ Less) fs
    → put name_cmp n tt (names_in ns fs) ≡ (n, tt) ∷ names_in ns fs
put_front ns n [] h = refl
put_front ns n (f ∷ fs) h =
    elim (is_written (slice_get ns f.1)) as
    (λ b. put name_cmp n tt (cond b ((f.0, tt) ∷ names_in ns fs) (names_in ns fs))
    ≡ (n, tt) ∷ cond b ((f.0, tt) ∷ names_in ns fs) (names_in ns fs)) [
      | true ↦ put_by n f Less (names_in ns fs) (All-head (λ f. name_cmp n f.0 ≡ Less) f fs h)
      | false ↦ put_front ns n fs (All-tail (λ f. name_cmp n f.0 ≡ Less) f fs h)
    ]

-- the node m, which is written, takes the place of the one at j, which n leads to and no other name does
module _ (ns : List Node) (j : ℕ) (m : Node) (inside : j < length ns) (written : m.is_written ≡ true) (n : Name) where
  here : (f : Name × ℕ) (fs : List (Name × ℕ)) → f.1 ≡ j → name_cmp n f.0 ≡ Equal → All (λ g. name_cmp n g.0 ≡ Less) fs
      → All (λ g. g.1 ≢ j) fs → names_in (set ns j m) (f ∷ fs) ≡ put name_cmp n tt (names_in ns (f ∷ fs))
  here f fs at same less other =
      ap (λ k. cond (is_written (slice_get (set ns j m) k)) ((f.0, tt) ∷ names_in (set ns j m) fs) (names_in (set ns j m) fs)) at
      ∙ ap (λ o. cond (is_written o) ((f.0, tt) ∷ names_in (set ns j m) fs) (names_in (set ns j m) fs)) (get_same ns j m inside)
      ∙ ap (λ b. cond b ((f.0, tt) ∷ names_in (set ns j m) fs) (names_in (set ns j m) fs)) written
      ∙ ap (λ xs. (f.0, tt) ∷ xs) (names_other ns j m fs other)
      ∙ elim (is_written (slice_get ns f.1)) as
      (λ b. (f.0, tt) ∷ names_in ns fs ≡ put name_cmp n tt (cond b ((f.0, tt) ∷ names_in ns fs) (names_in ns fs))) [
        | true ↦ sym (put_by n f Equal (names_in ns fs) same)
        | false ↦ ap (λ x. (x, tt) ∷ names_in ns fs) (sym (same_names n f.0 same)) ∙ sym (put_front ns n fs less)
      ]

  later : (f : Name × ℕ) (fs : List (Name × ℕ)) → f.1 ≢ j → name_cmp n f.0 ≡ Greater
      → names_in (set ns j m) fs ≡ put name_cmp n tt (names_in ns fs)
      → names_in (set ns j m) (f ∷ fs) ≡ put name_cmp n tt (names_in ns (f ∷ fs))
  later f fs apart greater rest =
      ap (λ o. cond (is_written o) ((f.0, tt) ∷ names_in (set ns j m) fs) (names_in (set ns j m) fs)) (get_other ns j m f.1 apart)
      ∙ ap (λ xs. cond (is_written (slice_get ns f.1)) ((f.0, tt) ∷ xs) xs) rest
      ∙ elim (is_written (slice_get ns f.1)) as
      (λ b. cond b ((f.0, tt) ∷ put name_cmp n tt (names_in ns fs)) (put name_cmp n tt (names_in ns fs))
      ≡ put name_cmp n tt (cond b ((f.0, tt) ∷ names_in ns fs) (names_in ns fs))) [
        | true ↦ sym (put_by n f Greater (names_in ns fs) greater)
        | false ↦ refl
      ]

  absent : (fs : List (Name × ℕ)) → All (λ f. name_cmp n f.0 ≡ Less) fs → find name_cmp n fs ≡ None
  absent [] h = refl
  absent (f ∷ fs) h = ap (λ o. cond (is_eq o) (Some f.1) (find name_cmp n fs)) (All-head (λ f. name_cmp n f.0 ≡ Less) f fs h)
      ∙ absent fs (All-tail (λ f. name_cmp n f.0 ≡ Less) f fs h)

  names_put : (fs : List (Name × ℕ)) → IsTrue (is_sorted name_cmp fs) → find name_cmp n fs ≡ Some j
      → All (λ f. f.1 ≡ j → name_cmp n f.0 ≡ Equal) fs → names_in (set ns j m) fs ≡ put name_cmp n tt (names_in ns fs)
  names_put [] s p a = cc
  names_put (f ∷ fs) s p a =
      let rising = and_parts (below_all name_cmp f.0 fs) (is_sorted name_cmp fs) s in
      let rest : All (λ g. name_cmp f.0 g.0 ≡ Less) fs = above f.0 fs rising.0 in
      let mine = All-head (λ f. f.1 ≡ j → name_cmp n f.0 ≡ Equal) f fs a in
      let others = All-tail (λ f. f.1 ≡ j → name_cmp n f.0 ≡ Equal) f fs a in
      elim (name_cmp n f.0) as
      (λ o. name_cmp n f.0 ≡ o → cond (is_eq o) (Some f.1) (find name_cmp n fs) ≡ Some j
      → names_in (set ns j m) (f ∷ fs) ≡ put name_cmp n tt (names_in ns (f ∷ fs))) [
        | Less ↦ λ o q. let none = absent fs (λ k d h. name_total.trans n f.0 (get_or fs k d).0 o (rest k d h)) in cc
        | Equal ↦ λ o q.
            let less : All (λ g. name_cmp n g.0 ≡ Less) fs = λ k d h. name_total.congr n f.0 (get_or fs k d).0 o ∙ rest k d h in
            here f fs (same_Some f.1 j q) o less (λ k d h e. let t : Equal ≡ Less = sym (others k d h e) ∙ less k d h in cc)
        | Greater ↦ λ o q. later f fs (λ e. let t : Greater ≡ Equal = sym o ∙ mine e in cc) o (names_put fs rising.1 q others)
      ] refl p

-- a write that marks the node of a field, and changes nothing else there
module _ (ns : List Node) (t : IsTree ns) (e : Element) (n : Name) (j : ℕ) (old m : Node) (at : number ns (Field e n) ≡ Some j)
    (got : slice_get ns j ≡ Some old) (linked : links_of (Some m) ≡ links_of (Some old)) where
  same_links : (x : Element) (o : Option ℕ) → number ns x ≡ o → links_of (node_at (set ns j m) x) ≡ links_of (node_in ns o)
  same_links x o p = ap (λ y. links_of (node_in (set ns j m) y))
      (sym (number_links ns (set ns j m) (links_each ns j old m got linked) x) ∙ p)
      ∙ by o where
        by : (o : Option ℕ) → links_of (node_in (set ns j m) o) ≡ links_of (node_in ns o)
        by None = refl
        by (Some k) = sym (links_each ns j old m got linked k)

  -- the names at the element itself
  own_names : (written : m.is_written ≡ true) (i : ℕ) → child_number ns i (FieldHop n) ≡ Some j
      → names_in (set ns j m) (links ns i).0 ≡ put name_cmp n tt (names_in ns (links ns i).0)
  own_names written i child =
      names_put ns j m (get_inside ns j old got) written n (links ns i).0 (t.sorted_names i) child
      (λ k d h same.
      let there : child_number ns i (FieldHop (get_or (links ns i).0 k d).0) ≡ Some j = field_there ns t i k d h ∙ ap Some same in
      ap (name_cmp n)
      (sym (name_is n (get_or (links ns i).0 k d).0
      (t.one_parent i (FieldHop n) i (FieldHop (get_or (links ns i).0 k d).0) j child there).1))
      ∙ tied_itself name_total n)

  -- the names at another element
  other_names : (x : Element) (k i : ℕ) → number ns x ≡ Some k → number ns e ≡ Some i → child_number ns i (FieldHop n) ≡ Some j
      → is_same x e ≡ false → names_in (set ns j m) (links ns k).0 ≡ names_in ns (links ns k).0
  other_names x k i p q child far = names_other ns j m (links ns k).0 (λ h d lt same.
      let there : child_number ns k (FieldHop (get_or (links ns k).0 h d).0) ≡ Some j = field_there ns t k h d lt ∙ ap Some same in
      let one : k ≡ i = (t.one_parent k (FieldHop (get_or (links ns k).0 h d).0) i (FieldHop n) j there child).0 in
      let xe : x ≡ e = one_element ns t x e i (p ∙ ap Some one) q in
      true≢false (sym (ap (λ y. is_same y e) xe ∙ element_itself e) ∙ far))

  names_at : m.is_written ≡ true → (x : Element) → (context (set ns j m)).fields x ≡ (name_at (context ns) e n).fields x
  names_at written x =
      let (i, ei, child) = next_some ns (number ns e) (FieldHop n) j at in
      by (number ns x) refl i ei child where
        by : (o : Option ℕ) → number ns x ≡ o → (i : ℕ) → number ns e ≡ Some i → child_number ns i (FieldHop n) ≡ Some j
            → (context (set ns j m)).fields x ≡ (name_at (context ns) e n).fields x
        by o p i ei child =
            ap (λ l. names_in (set ns j m) l.0) (same_links x o p)
            ∙ elim (is_same x e) as
            (λ b. is_same x e ≡ b
            → names_in (set ns j m) (links_of (node_in ns o)).0
            ≡ cond b (put name_cmp n tt (names_in ns (links_of (node_in ns o)).0)) (names_in ns (links_of (node_in ns o)).0)) [
              | true ↦ λ q.
                  let here : o ≡ Some i = sym p ∙ ap (number ns) (same_elements x e q) ∙ ei in
                  ap (λ y. names_in (set ns j m) (links_of (node_in ns y)).0) here ∙ own_names written i child
                  ∙ sym (ap (λ y. put name_cmp n tt (names_in ns (links_of (node_in ns y)).0)) here)
              | false ↦ λ q. elsewhere o p q
            ] refl
            ∙ ap
            (λ y. cond (is_same x e) (put name_cmp n tt (names_in ns (links_of (node_in ns y)).0))
            (names_in ns (links_of (node_in ns y)).0))
            (sym p) where
              elsewhere : (o : Option ℕ) → number ns x ≡ o → is_same x e ≡ false
                  → names_in (set ns j m) (links_of (node_in ns o)).0 ≡ names_in ns (links_of (node_in ns o)).0
              elsewhere None p q = refl
              elsewhere (Some k) p q = other_names x k i p ei child q

  pub named_with : presence_of (Some m) ≡ presence_of (Some old) → register_of (Some m) ≡ register_of (Some old)
      → order_of (Some m) ≡ order_of (Some old) → m.is_written ≡ true → context (set ns j m) ≡ name_at (context ns) e n
  named_with p r o written = context_same _ _ (stays presence_of p) (stays register_of r) (names_at written) (stays order_of o) where
    stays : {A : Type 0} (f : Option Node → A) → f (Some m) ≡ f (Some old) → (x : Element) → f (node_at (set ns j m) x) ≡ f (node_at ns x)
    stays f same x =
        ap f (node_set ns t (Field e n) j old m at got linked x) ∙ picked f (is_same x (Field e n)) m (node_at ns x)
        ∙ ap (λ v. cond (is_same x (Field e n)) v (f (node_at ns x))) (same ∙ ap f (sym (node_found ns (Field e n) j old at got)))
        ∙ itself (Field e n) x (λ y. f (node_at ns y))
