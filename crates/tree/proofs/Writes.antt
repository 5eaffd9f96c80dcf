-- What a write along a path does, against the definition of an operation.
use Rattle.std.proofs.Common.{◌≡◌, ◌<◌, ◌≤◌, Bool, true, false, cond, List, Option, Some, None, refl, sym, ap, ◌∙◌, arith}
use Rattle.std.specs.FinMap.{put}
use Rattle.std.proofs.lemmas.Bool.{false_from_ne_true}
use Rattle.semantics.specs.Ids.{OpId, IdSet, id_cmp}
use Rattle.semantics.specs.Elements.{Element, Doc, Field, Item, name_cmp, is_same, depth, Scalar, Value, Plain, EmptyMap, EmptyList, Tag}
use Rattle.semantics.specs.Elements.{AsRegister, AsMap, AsList, tag_of, Place, At, HeadOf}
use Rattle.semantics.specs.Operations.{tag_at, name_toward, scalar_in, Assign, Insert, Delete}
use Rattle.semantics.specs.Paths.{Hop, FieldHop, ItemHop, child}
use Rattle.semantics.specs.Context.{Context, put_some, put_name, clear, apply, insert_some, insert_after}
use Rattle.semantics.proofs.Orders.{element_itself, same_elements}
use Rattle.tree.specs.Writes.{mark, entered, entered_by, registered, assigned, linked}
use Rattle.tree.proofs.Contexts.{context_same}

pub entered_more : (C : Context) (e : Element) (k : Hop) (a : OpId) → entered C (child e k) a ≡ entered_by (entered C e a) e k a
entered_more C e (FieldHop n) a = refl
entered_more C e (ItemHop b) a = refl

pub same_sym : (x t : Element) → is_same x t ≡ is_same t x
same_sym x t = elim (is_same x t) as (λ b. is_same x t ≡ b → b ≡ is_same t x) [
  | true ↦ λ p. sym (ap (λ y. is_same t y) (same_elements x t p) ∙ element_itself t)
  | false ↦ λ p. sym
      (false_from_ne_true (is_same t x)
      (λ q. let r : true ≡ false = sym (ap (λ y. is_same y t) (sym (same_elements t x q)) ∙ element_itself t) ∙ p in cc))
] refl

apart : (t e : Element) → depth t < depth e → is_same t e ≡ false
apart t e h = false_from_ne_true (is_same t e) (λ p. let q = ap depth (same_elements t e p) in omega arith)

-- nothing on the way down to t is deeper than t
tag_deeper : (k : Tag) (t e : Element) → depth t < depth e → tag_at k t e ≡ None
tag_deeper k Doc e h = ap (λ b. cond b (Some k) None) (apart Doc e h)
tag_deeper k (Field t n) e h = ap (λ b. cond b (Some k) (tag_at AsMap t e)) (apart (Field t n) e h) ∙ tag_deeper AsMap t e (omega arith)
tag_deeper k (Item t a) e h = ap (λ b. cond b (Some k) (tag_at AsList t e)) (apart (Item t a) e h) ∙ tag_deeper AsList t e (omega arith)

-- a mark at t, above what the path to t has
marked_over : (t x : Element) (a : OpId) (k : Tag) (Q P : List (OpId × Tag)) (o : Option Tag) → Q ≡ put_some id_cmp a o P
    → (is_same t x ≡ true → o ≡ None)
    → cond (is_same x t) (put id_cmp a k Q) Q ≡ put_some id_cmp a (cond (is_same t x) (Some k) o) P
marked_over t x a k Q P o q none =
    ap (λ b. cond b (put id_cmp a k Q) Q) (same_sym x t)
    ∙ elim (is_same t x) as (λ b. is_same t x ≡ b → cond b (put id_cmp a k Q) Q ≡ put_some id_cmp a (cond b (Some k) o) P) [
      | true ↦ λ p. ap (put id_cmp a k) (q ∙ ap (λ z. put_some id_cmp a z P) (none p))
      | false ↦ λ p. q
    ] refl

pub marked_presence : (C : Context) (t : Element) (a : OpId) (k : Tag) (x : Element)
    → (mark (entered C t a) t a k).presence x ≡ put_some id_cmp a (tag_at k t x) (C.presence x)
marked_presence C Doc a k x = marked_over Doc x a k (C.presence x) (C.presence x) None refl (λ p. refl)
marked_presence C (Field t n) a k x = marked_over (Field t n) x a k ((mark (entered C t a) t a AsMap).presence x) (C.presence x)
    (tag_at AsMap t x) (marked_presence C t a AsMap x)
    (λ p. tag_deeper AsMap t x (let q = ap depth (same_elements (Field t n) x p) in omega arith))
marked_presence C (Item t b) a k x = marked_over (Item t b) x a k ((mark (entered C t a) t a AsList).presence x) (C.presence x)
    (tag_at AsList t x) (marked_presence C t a AsList x)
    (λ p. tag_deeper AsList t x (let q = ap depth (same_elements (Item t b) x p) in omega arith))

name_deeper : (t e : Element) → depth t ≤ depth e → name_toward t e ≡ None
name_deeper Doc e h = refl
name_deeper (Field t n) e h = ap (λ b. cond b (Some n) (name_toward t e)) (apart t e (omega arith)) ∙ name_deeper t e (omega arith)
name_deeper (Item t a) e h = name_deeper t e (omega arith)

entered_fields : (C : Context) (t : Element) (a : OpId) (x : Element) → (entered C t a).fields x ≡ put_name (name_toward t x) (C.fields x)
entered_fields C Doc a x = refl
entered_fields C (Item t b) a x = entered_fields C t a x
entered_fields C (Field t n) a x =
    let Q = (entered C t a).fields x in
    let q : Q ≡ put_name (name_toward t x) (C.fields x) = entered_fields C t a x in
    ap (λ b. cond b (put name_cmp n tt Q) Q) (same_sym x t)
    ∙ elim (is_same t x) as
    (λ b. is_same t x ≡ b → cond b (put name_cmp n tt Q) Q ≡ put_name (cond b (Some n) (name_toward t x)) (C.fields x)) [
      | true ↦ λ p. ap (put name_cmp n tt)
          (q ∙ ap (λ o. put_name o (C.fields x)) (name_deeper t x (let h = ap depth (same_elements t x p) in omega arith)))
      | false ↦ λ p. q
    ] refl

entered_register : (C : Context) (t : Element) (a : OpId) (x : Element) → (entered C t a).register x ≡ C.register x
entered_register C Doc a x = refl
entered_register C (Field t n) a x = entered_register C t a x
entered_register C (Item t b) a x = entered_register C t a x

pub entered_order : (C : Context) (t : Element) (a : OpId) (x : Element) → (entered C t a).order x ≡ C.order x
entered_order C Doc a x = refl
entered_order C (Field t n) a x = entered_order C t a x
entered_order C (Item t b) a x = entered_order C t a x

put_where : (b : Bool) (a : OpId) (s : Scalar) (es : List (OpId × Scalar))
    → cond b (put id_cmp a s es) es ≡ put_some id_cmp a (cond b (Some s) None) es
put_where true a s es = refl
put_where false a s es = refl

put_nowhere : (b : Bool) (a : OpId) (es : List (OpId × Scalar)) → es ≡ put_some id_cmp a (cond b None None) es
put_nowhere true a es = refl
put_nowhere false a es = refl

registered_at : (C : Context) (t : Element) (a : OpId) (k : Tag) (s : Option Scalar) (x : Element)
    → (registered (mark (entered C t a) t a k) t a s).register x ≡ put_some id_cmp a (cond (is_same t x) s None) (C.register x)
registered_at C t a k None x = entered_register C t a x ∙ put_nowhere (is_same t x) a (C.register x)
registered_at C t a k (Some s) x =
    ap (λ b. cond b (put id_cmp a s ((entered C t a).register x)) ((entered C t a).register x)) (same_sym x t)
    ∙ ap (λ r. cond (is_same t x) (put id_cmp a s r) r) (entered_register C t a x)
    ∙ put_where (is_same t x) a s (C.register x)

-- what `assign` does is what the definition says of an assign
pub assign_is : (C : Context) (a : OpId) (S : IdSet) (t : Element) (v : Value)
    → assigned C a S t (tag_of v) (scalar_in (Some v)) ≡ apply C (record { id = a; deps = S; place = At t; mutation = Assign v })
assign_is C a S t v =
    let D = clear C t S in
    context_same _ _ (presence v) (registered_at D t a (tag_of v) (scalar_in (Some v))) (fields v) (order v) where
      presence : (v : Value) (x : Element)
          → (assigned C a S t (tag_of v) (scalar_in (Some v))).presence x
          ≡ put_some id_cmp a (tag_at (tag_of v) t x) ((clear C t S).presence x)
      presence (Plain s) x = marked_presence (clear C t S) t a AsRegister x
      presence EmptyMap x = marked_presence (clear C t S) t a AsMap x
      presence EmptyList x = marked_presence (clear C t S) t a AsList x

      fields : (v : Value) (x : Element)
          → (assigned C a S t (tag_of v) (scalar_in (Some v))).fields x ≡ put_name (name_toward t x) (C.fields x)
      fields (Plain s) x = entered_fields (clear C t S) t a x
      fields EmptyMap x = entered_fields (clear C t S) t a x
      fields EmptyList x = entered_fields (clear C t S) t a x

      order : (v : Value) (x : Element) → (assigned C a S t (tag_of v) (scalar_in (Some v))).order x ≡ C.order x
      order (Plain s) x = entered_order (clear C t S) t a x
      order EmptyMap x = entered_order (clear C t S) t a x
      order EmptyList x = entered_order (clear C t S) t a x

-- a clear alone is what the definition says of a delete
pub delete_is : (C : Context) (a : OpId) (S : IdSet) (t : Element)
    → clear C t S ≡ apply C (record { id = a; deps = S; place = At t; mutation = Delete })
delete_is C a S t = context_same _ _ (λ x. refl) (λ x. put_nowhere (is_same t x) a ((clear C t S).register x)) (λ x. refl) (λ x. refl)

-- a head, or an item
abbrev pub after_place : Option OpId → Element → Place
after_place None l = HeadOf l
after_place (Some p) l = At (Item l p)

pub order_linked : (C : Context) (l : Element) (p : Option OpId) (a : OpId) (x : Element)
    → (linked C l p a).order x ≡ insert_some (cond (is_same l x) (Some p) None) a (C.order x)
order_linked C l p a x =
    ap (λ b. cond b (insert_after p a (C.order x)) (C.order x)) (same_sym x l)
    ∙ elim (is_same l x) as
    (λ b. cond b (insert_after p a (C.order x)) (C.order x)
    ≡ insert_some (cond b (Some p) None) a (C.order x)) [ true ↦ refl | false ↦ refl ]

-- what `insert` does is what the definition says of an insert
pub insert_is : (C : Context) (a : OpId) (S : IdSet) (l : Element) (p : Option OpId) (v : Value)
    → assigned (linked C l p a) a S (Item l a) (tag_of v) (scalar_in (Some v))
    ≡ apply C (record { id = a; deps = S; place = after_place p l; mutation = Insert v })
insert_is C a S l None v = assign_is (linked C l None a) a S (Item l a) v
    ∙ context_same _ _ (λ x. refl) (λ x. refl) (λ x. refl) (order_linked C l None a)
insert_is C a S l (Some p) v = assign_is (linked C l (Some p) a) a S (Item l a) v
    ∙ context_same _ _ (λ x. refl) (λ x. refl) (λ x. refl) (order_linked C l (Some p) a)
