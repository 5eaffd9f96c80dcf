-- What lists show once a new item is linked in, and once an operation is written on the way to its target.
use Rattle.std.proofs.Common.{◌≡◌, ◌<◌, ◌||◌, ◌&&◌, Bool, true, false, true≢false, cond, List, [], ◌∷◌, Option, Some, None, refl, sym, ap}
use Rattle.std.proofs.Common.{◌∙◌, inl, inr, subst}
use Rattle.std.proofs.lemmas.Bool.{or_cases, or_parts}
use Rattle.std.specs.List.{filter}
use Rattle.semantics.specs.Ids.{OpId, id_cmp, is_same_id, is_smaller_id}
use Rattle.semantics.specs.Elements.{Element, Doc, Field, Item, Scalar, Tag, AsMap, AsList, is_same, is_under}
use Rattle.semantics.specs.Operations.{after_in, tag_at}
use Rattle.semantics.specs.Context.{Context, insert_after, insert_some, put_some, skip, has_item}
use Rattle.semantics.specs.DocumentAnswer.{is_any}
use Rattle.semantics.proofs.Orders.{id_itself, same_elements}
use Rattle.tree.specs.declared.node.Node.{Node}
use Rattle.tree.specs.Nodes.{SameLinks, context, node_in, presence_of}
use Rattle.tree.specs.Shown.{AreEmpty, AreShown, ShownBut}
use Rattle.tree.specs.Trees.{FitsIn}
use Rattle.tree.specs.Writes.{entered, linked, mark, registered}
use Rattle.tree.proofs.Shape.{number_same}
use Rattle.tree.proofs.SameViews.{flagged_view, empty_below_view, visible_view}
use Rattle.tree.proofs.Clears.{under_itself}
use Rattle.tree.proofs.Showing.{but_kept, but_more}
use Rattle.tree.proofs.Writes.{entered_order, marked_presence, order_linked, same_sym}

tag_far : (k : Tag) (t x : Element) → is_under t x ≡ false → tag_at k t x ≡ None
tag_far k Doc x h = ap (λ b. cond b (Some k) None) h
tag_far k (Field t n) x h =
    let p = or_parts (is_same (Field t n) x) (is_under t x) h in ap (λ b. cond b (Some k) (tag_at AsMap t x)) p.0 ∙ tag_far AsMap t x p.1
tag_far k (Item t a) x h =
    let p = or_parts (is_same (Item t a) x) (is_under t x) h in ap (λ b. cond b (Some k) (tag_at AsList t x)) p.0 ∙ tag_far AsList t x p.1

pub not_same : (t x : Element) → is_under t x ≡ false → is_same t x ≡ false
not_same Doc x h = h
not_same (Field t n) x h = (or_parts (is_same (Field t n) x) (is_under t x) h).0
not_same (Item t a) x h = (or_parts (is_same (Item t a) x) (is_under t x) h).0

-- the item a of l is the one that a slot puts in
abbrev new_at : Option (Element × Option OpId) → OpId → Element → OpId → Bool
new_at None id l a = false
new_at (Some s) id l a = is_same (Item s.0 id) (Item l a)

-- the flags as they are before they are set: a new item isn't shown
abbrev flag_of : Context → Option (Element × Option OpId) → OpId → Element → OpId → Bool
flag_of C s id l a = cond (new_at s id l a) false (is_any (C.presence (Item l a)))

-- where an item that doesn't pass the test is put doesn't matter
skip_hidden : (g : OpId → Bool) (id : OpId) (bs : List OpId) → g id ≡ false → filter g (skip id bs) ≡ filter g bs
skip_hidden g id [] e = ap (λ b. cond b (id ∷ []) []) e
skip_hidden g id (b ∷ bs) e = elim (is_smaller_id b id) as (λ c. filter g (cond c (id ∷ b ∷ bs) (b ∷ skip id bs)) ≡ filter g (b ∷ bs)) [
  | true ↦ ap (λ c. cond c (id ∷ filter g (b ∷ bs)) (filter g (b ∷ bs))) e
  | false ↦ ap (λ xs. cond (g b) (b ∷ xs) xs) (skip_hidden g id bs e)
]

insert_hidden : (g : OpId → Bool) (p : Option OpId) (id : OpId) (bs : List OpId) → g id ≡ false
    → filter g (insert_after p id bs) ≡ filter g bs
insert_hidden g None id bs e = skip_hidden g id bs e
insert_hidden g (Some p) id [] e = refl
insert_hidden g (Some p) id (b ∷ bs) e = elim (is_same_id p b) as
    (λ c. filter g (cond c (b ∷ skip id bs) (b ∷ insert_after (Some p) id bs)) ≡ filter g (b ∷ bs)) [
      | true ↦ ap (λ xs. cond (g b) (b ∷ xs) xs) (skip_hidden g id bs e)
      | false ↦ ap (λ xs. cond (g b) (b ∷ xs) xs) (insert_hidden g (Some p) id bs e)
    ]

-- a test that differs at an item that isn't there
filter_absent : (f : OpId → Bool) (id : OpId) (xs : List OpId) → has_item id xs ≡ false
    → filter f xs ≡ filter (λ a. cond (is_same_id id a && true) false (f a)) xs
filter_absent f id [] h = refl
filter_absent f id (x ∷ xs) h =
    let parts = or_parts (is_same_id id x) (has_item id xs) h in
    let rest = filter_absent f id xs parts.1 in
    let same : f x ≡ cond (is_same_id id x && true) false (f x) = sym (ap (λ c. cond (c && true) false (f x)) parts.0) in
    λ k. cond (same k) (x ∷ rest k) (rest k)

elsewhere : (c x : Bool) → x ≡ cond (c && false) false x
elsewhere true x = refl
elsewhere false x = refl

-- the flags of a list stay as the new item comes in
list_new : (C : Context) (s : Option (Element × Option OpId)) (id : OpId) (l : Element) → FitsIn C id s
    → filter (λ a. is_any (C.presence (Item l a))) (C.order l) ≡ filter (flag_of C s id l) (insert_some (after_in l s) id (C.order l))
list_new C None id l h = refl
list_new C (Some s) id l h = by (is_same s.0 l) refl
  where
    by : (b : Bool) → is_same s.0 l ≡ b → filter (λ a. is_any (C.presence (Item l a))) (C.order l)
        ≡ filter (λ a. cond (is_same_id id a && b) false (is_any (C.presence (Item l a))))
        (insert_some (cond b (Some s.1) None) id (C.order l))
    by true q =
        filter_absent (λ a. is_any (C.presence (Item l a))) id (C.order l)
        (ap (λ m. has_item id (C.order m)) (sym (same_elements s.0 l q)) ∙ h.1)
        ∙ sym
        (insert_hidden (λ a. cond (is_same_id id a && true) false (is_any (C.presence (Item l a)))) s.1 id (C.order l)
        (ap (λ c. cond (c && true) false (is_any (C.presence (Item l id)))) (id_itself id)))
    by false q = λ k. filter (λ a. elsewhere (is_same_id id a) (is_any (C.presence (Item l a))) k) (C.order l)

hidden : (b : Bool) → cond b false false ≡ false
hidden true = refl
hidden false = refl

-- where a new item comes in and the flags stay, only its own may be wrong
pub linked_shown : (ns ms : List Node) → SameLinks ns ms → (l : Element) (p : Option OpId) (id : OpId)
    → context ms ≡ linked (context ns) l p id → FitsIn (context ns) id (Some (l, p)) → AreShown ns → AreEmpty ns
    → ShownBut ms (λ x. is_same x (Item l id))
linked_shown ns ms links l p id is fits shown empty =
    let C = context ns in
    record {
      flag = flag_of C (Some (l, p)) id;
      flagged = λ y. sym (visible_view ns ms links.same links.visible y) ∙ shown y ∙ list_new C (Some (l, p)) id y fits
          ∙ ap (filter (flag_of C (Some (l, p)) id y)) (sym (ap (λ (D : Context). D.order y) is ∙ order_linked C l p id y));
      right = λ y a far.
          ap (λ b. cond b false (is_any (C.presence (Item y a)))) (same_sym (Item l id) (Item y a) ∙ far)
          ∙ ap (λ (D : Context). is_any (D.presence (Item y a))) (sym is);
      absent = λ y a none.
          ap (λ o. cond (new_at (Some (l, p)) id y a) false (is_any (presence_of (node_in ns o))))
          (number_same ns ms links (Item y a) ∙ none)
          ∙ hidden (new_at (Some (l, p)) id y a);
      empty_below = λ y a far lt. ap (λ (D : Context). is_any (D.presence (Item y a))) is
          ∙ empty.items y a (subst (λ g. a.counter < g) (sym (empty_below_view ns ms links.same links.empty_below y)) lt);
      fields = λ y n far low. ap (λ (D : Context). is_any (D.presence (Field y n))) is
          ∙ empty.fields y n (flagged_view ns ms links.same links.flags y n ∙ low);
    }

-- an operation that was written at t: what isn't on the way to t keeps its presence, and each list its order
abbrev pub written : Context → Element → OpId → Tag → Option Scalar → Context
written C t a k s = registered (mark (entered C t a) t a k) t a s

written_presence : (C : Context) (t : Element) (a : OpId) (k : Tag) (s : Option Scalar) (x : Element) → is_under t x ≡ false
    → (written C t a k s).presence x ≡ C.presence x
written_presence C t a k None x far = marked_presence C t a k x ∙ ap (λ o. put_some id_cmp a o (C.presence x)) (tag_far k t x far)
written_presence C t a k (Some r) x far = marked_presence C t a k x ∙ ap (λ o. put_some id_cmp a o (C.presence x)) (tag_far k t x far)

written_order : (C : Context) (t : Element) (a : OpId) (k : Tag) (s : Option Scalar) (l : Element) → (written C t a k s).order l ≡ C.order l
written_order C t a k None l = entered_order C t a l
written_order C t a k (Some r) l = entered_order C t a l

-- where the flags stay while it is written, only those on the way to t may be wrong
pub written_shown : (ns ms : List Node) → SameLinks ns ms → (t : Element) (a : OpId) (k : Tag) (s : Option Scalar)
    → context ms ≡ written (context ns) t a k s → (off : Element → Bool)
    → ((x : Element) → is_under t x ≡ false → off x ≡ false)
    → ShownBut ns off → ShownBut ms (is_under t)
written_shown ns ms links t a k s is off within = but_kept ns ms links
    (λ l. ap (λ (D : Context). D.order l) is ∙ written_order (context ns) t a k s l) off (is_under t)
    (λ x far. (within x far, ap (λ (D : Context). D.presence x) is ∙ written_presence (context ns) t a k s x far))

-- what isn't on the way to t isn't t
pub way_itself : (t x : Element) → is_under t x ≡ false → is_same x t ≡ false
way_itself t x far = same_sym x t ∙ not_same t x far

-- t is on the way to itself
pub at_way : (ns : List Node) (t : Element) → ShownBut ns (λ x. is_same x t || false) → ShownBut ns (is_under t)
at_way ns t = but_more ns _ _ (λ x i p u. elim (or_cases (is_same x t) false u) [
  | inl s ↦ ap (is_under t) (same_elements x t s) ∙ under_itself t
  | inr n ↦ absurd (true≢false (sym n))
])
