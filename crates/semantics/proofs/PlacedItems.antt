-- Which items stand in the lists of a legal history.
use Rattle.std.proofs.Common.{◌≡◌, ◌⊎◌, inl, inr, Bool, true, false, cond, ◌&&◌, ◌||◌, List, [], ◌∷◌, Option, Some, None, is_some, refl}
use Rattle.std.proofs.Common.{sym, ap, ◌∙◌, true≢false}
use Rattle.std.specs.Cmp.{both_ways}
use Rattle.std.proofs.lemmas.Bool.{and_from, or_cases, or_left, or_right}
use Rattle.semantics.specs.Ids.{OpId, is_same_id, is_smaller_id}
use Rattle.semantics.specs.Elements.{Element, Doc, Field, Item, Place, At, HeadOf}
use Rattle.semantics.specs.Operations.{Operation, Mutation, Assign, Insert, Delete, slot_of, after_in, inserted_after, element_of}
use Rattle.semantics.specs.LegalHistory.{has_id, IsItemOf, ItemsStand, Follows, IsLegal}
use Rattle.semantics.specs.Context.{has_item, has_position, skip, insert_after, insert_some, doc}
use Rattle.semantics.specs.Faults.{is_item_of}
use Rattle.semantics.proofs.ItemTests.{item_from}
use Rattle.semantics.proofs.Orders.{element_itself, id_itself, ids_from_test}

-- an item is still there where x stands before it in both, or it is x
pub keeps_first : (a x : OpId) (xs ys : List OpId) → (has_item a xs ≡ true → has_item a ys ≡ true) → has_item a (x ∷ xs) ≡ true
    → has_item a (x ∷ ys) ≡ true
keeps_first a x xs ys k h = elim
    (or_cases (is_same_id a x) (has_item a xs) h) [
      | inl f ↦ or_left (is_same_id a x) (has_item a ys) f
      | inr r ↦ or_right (is_same_id a x) (has_item a ys)
          (k r)
    ]

-- an item stays where another goes in
skip_keeps : (a b : OpId) (xs : List OpId) → has_item a xs ≡ true → has_item a (skip b xs) ≡ true
skip_keeps a b [] h = or_right (is_same_id a b) false h
skip_keeps a b (x ∷ xs) h = by (is_smaller_id x b) (keeps_first a x xs (skip b xs) (skip_keeps a b xs) h) where
  by : (s : Bool) → has_item a (x ∷ skip b xs) ≡ true → has_item a (cond s (b ∷ x ∷ xs) (x ∷ skip b xs)) ≡ true
  by true k = or_right (is_same_id a b) (has_item a (x ∷ xs)) h
  by false k = k

insert_keeps : (p : Option OpId) (a b : OpId) (xs : List OpId) → has_item a xs ≡ true → has_item a (insert_after p b xs) ≡ true
insert_keeps None a b xs h = skip_keeps a b xs h
insert_keeps (Some p) a b [] h = absurd (true≢false (sym h))
insert_keeps (Some p) a b (x ∷ xs) h = by (is_same_id p x) (keeps_first a x xs (skip b xs) (skip_keeps a b xs) h)
    (keeps_first a x xs (insert_after (Some p) b xs) (insert_keeps (Some p) a b xs) h) where
      by : (s : Bool) → has_item a (x ∷ skip b xs) ≡ true → has_item a (x ∷ insert_after (Some p) b xs) ≡ true
          → has_item a (cond s (x ∷ skip b xs) (x ∷ insert_after (Some p) b xs)) ≡ true
      by true j k = j
      by false j k = k

some_keeps : (g : Option (Option OpId)) (a b : OpId) (xs : List OpId) → has_item a xs ≡ true → has_item a (insert_some g b xs) ≡ true
some_keeps None a b xs h = h
some_keeps (Some p) a b xs h = insert_keeps p a b xs h

-- the items of a list stay, whatever is applied
pub order_keeps : (H : List Operation) (o : Operation) (l : Element) (a : OpId) → has_item a ((doc H).order l) ≡ true
    → has_item a ((doc (o ∷ H)).order l) ≡ true
order_keeps H o l a h = some_keeps (inserted_after o l) a o.id ((doc H).order l) h

-- a new item is there, where what it goes after is
skip_has : (b : OpId) (xs : List OpId) → has_item b (skip b xs) ≡ true
skip_has b [] = or_left (is_same_id b b) false (id_itself b)
skip_has b (x ∷ xs) = by (is_smaller_id x b) (skip_has b xs) where
  by : (s : Bool) → has_item b (skip b xs) ≡ true → has_item b (cond s (b ∷ x ∷ xs) (x ∷ skip b xs)) ≡ true
  by true k = or_left (is_same_id b b) (has_item b (x ∷ xs)) (id_itself b)
  by false k = or_right (is_same_id b x) (has_item b (skip b xs)) k

insert_has : (p : Option OpId) (b : OpId) (xs : List OpId) → has_position p xs ≡ true → has_item b (insert_after p b xs) ≡ true
insert_has None b xs h = skip_has b xs
insert_has (Some p) b [] h = absurd (true≢false (sym h))
insert_has (Some p) b (x ∷ xs) h = by (is_same_id p x) refl (insert_has (Some p) b xs) where
  by : (s : Bool) → is_same_id p x ≡ s → (has_item p xs ≡ true → has_item b (insert_after (Some p) b xs) ≡ true)
      → has_item b (cond s (x ∷ skip b xs) (x ∷ insert_after (Some p) b xs)) ≡ true
  by true e k = or_right (is_same_id b x) (has_item b (skip b xs)) (skip_has b xs)
  by false e k = or_right (is_same_id b x) (has_item b (insert_after (Some p) b xs)) (k (ap (λ s. s || has_item p xs) (sym e) ∙ h))

-- and no other is
Adds : OpId → OpId → List OpId → List OpId → Type 0
Adds a b xs ys = has_item a ys ≡ true → (is_same_id a b ≡ true) ⊎ (has_item a xs ≡ true)

adds_first : (a b x : OpId) (xs ys : List OpId) → Adds a b xs ys → Adds a b (x ∷ xs) (x ∷ ys)
unfolding Adds
adds_first a b x xs ys k h = elim (or_cases (is_same_id a x) (has_item a ys) h) [
  | inl f ↦ inr (or_left (is_same_id a x) (has_item a xs) f)
  | inr r ↦ elim (k r) [ inl f ↦ inl f | inr i ↦ inr (or_right (is_same_id a x) (has_item a xs) i) ]
]

skip_adds : (a b : OpId) (xs : List OpId) → Adds a b xs (skip b xs)
unfolding Adds
skip_adds a b [] h = or_cases (is_same_id a b) false h
skip_adds a b (x ∷ xs) h = by (is_smaller_id x b) (adds_first a b x xs (skip b xs) (skip_adds a b xs)) h where
  by : (s : Bool) → Adds a b (x ∷ xs) (x ∷ skip b xs) → Adds a b (x ∷ xs) (cond s (b ∷ x ∷ xs) (x ∷ skip b xs))
  by true k g = or_cases (is_same_id a b) (has_item a (x ∷ xs)) g
  by false k g = k g

insert_adds : (p : Option OpId) (a b : OpId) (xs : List OpId) → Adds a b xs (insert_after p b xs)
unfolding Adds
insert_adds None a b xs h = skip_adds a b xs h
insert_adds (Some p) a b [] h = inr h
insert_adds (Some p) a b (x ∷ xs) h = by (is_same_id p x) (adds_first a b x xs (skip b xs) (skip_adds a b xs))
    (adds_first a b x xs (insert_after (Some p) b xs) (insert_adds (Some p) a b xs)) h where
      by : (s : Bool) → Adds a b (x ∷ xs) (x ∷ skip b xs) → Adds a b (x ∷ xs) (x ∷ insert_after (Some p) b xs)
          → Adds a b (x ∷ xs) (cond s (x ∷ skip b xs) (x ∷ insert_after (Some p) b xs))
      by true j k g = j g
      by false j k g = k g

some_adds : (o : Option (Option OpId)) (a b : OpId) (xs : List OpId) → Adds a b xs (insert_some o b xs)
unfolding Adds
some_adds None a b xs h = inr h
some_adds (Some p) a b xs h = insert_adds p a b xs h

-- the items of lists are operations of the history
pub item_among : (H : List Operation) (l : Element) (a : OpId) → has_item a ((doc H).order l) ≡ true → has_id H a ≡ true
unfolding Adds
item_among [] l a h = h
item_among (o ∷ H) l a h = elim (some_adds (inserted_after o l) a o.id ((doc H).order l) h) [
  | inl s ↦ or_left (is_same_id o.id a) (has_id H a) (ap (λ b. is_same_id o.id b) (ids_from_test a o.id s) ∙ id_itself o.id)
  | inr r ↦ or_right (is_same_id o.id a) (has_id H a) (item_among H l a r)
]

slot_is : (a b : Element × Option OpId) → Some a ≡ Some b → a ≡ b
slot_is a b e = cc

-- what stands where an insert goes after it, where each item of the history stands in its list
AreThere : List Operation → Type 0
AreThere H = (l : Element) (a : OpId) → IsItemOf H l a → has_item a ((doc H).order l) ≡ true

prev_in : (H : List Operation) (S : OpId → Bool) → AreThere H → (m : Mutation) (place : Place) (l : Element) (p : Option OpId)
    → ItemsStand H S (element_of place) → slot_of m place ≡ Some (l, p) → has_position p ((doc H).order l) ≡ true
unfolding AreThere
prev_in H S there (Insert v) (HeadOf m) l p stand is = ap (λ (s : Element × Option OpId). has_position s.1 ((doc H).order s.0))
    (sym (slot_is (m, None) (l, p) is))
prev_in H S there (Insert v) (At (Item m q)) l p stand is = ap (λ (s : Element × Option OpId). has_position s.1 ((doc H).order s.0))
    (sym (slot_is (m, Some q) (l, p) is))
    ∙ there m q stand.1
prev_in H S there (Insert v) (At Doc) l p stand is = cc
prev_in H S there (Insert v) (At (Field e n)) l p stand is = cc
prev_in H S there (Assign v) place l p stand is = cc
prev_in H S there Delete place l p stand is = cc

items_there : (H : List Operation) → IsLegal H → AreThere H
unfolding AreThere
items_there [] legal l a (x, among, id, slot) = absurd among
items_there (o ∷ H) legal l a (x, inl same, id, (after, slot)) =
    let here : slot_of o.mutation o.place ≡ Some (l, after) = ap (λ (y : Operation). slot_of y.mutation y.place) (sym same) ∙ slot in
    let goes : inserted_after o l ≡ Some after = ap (after_in l) here ∙ ap (λ b. cond b (Some after) None) (element_itself l) in
    ap (λ b. has_item b ((doc (o ∷ H)).order l)) (sym id ∙ ap (λ (y : Operation). y.id) same)
    ∙ ap (λ g. has_item o.id (insert_some g o.id ((doc H).order l))) goes
    ∙ insert_has after o.id ((doc H).order l) (prev_in H o.deps (items_there H legal.0) o.mutation o.place l after legal.1.items here)
items_there (o ∷ H) legal l a (x, inr among, id, slot) = order_keeps H o l a (items_there H legal.0 l a (x, among, id, slot))

-- what an insert that may follow goes after stands in its list, if it isn't the head
pub prev_there : (H : List Operation) (o : Operation) → IsLegal H → Follows H o → (l : Element) (p : Option OpId)
    → slot_of o.mutation o.place ≡ Some (l, p) → has_position p ((doc H).order l) ≡ true
prev_there H o legal follows l p is = prev_in H o.deps (items_there H legal) o.mutation o.place l p follows.items is

-- what stands in a list was inserted into it
pub item_listed : (H : List Operation) (l : Element) (a : OpId) → has_item a ((doc H).order l) ≡ true → is_item_of H l a ≡ true
unfolding Adds
item_listed [] l a h = absurd (true≢false (sym h))
item_listed (o ∷ H) l a h = by (inserted_after o l) refl (item_listed H l a) h where
  by : (g : Option (Option OpId)) → inserted_after o l ≡ g → (has_item a ((doc H).order l) ≡ true → is_item_of H l a ≡ true)
      → has_item a (insert_some g o.id ((doc H).order l)) ≡ true → is_item_of (o ∷ H) l a ≡ true
  by None e rest h = or_right (is_same_id o.id a && is_some (inserted_after o l)) (is_item_of H l a) (rest h)
  by (Some p) e rest h = elim (insert_adds p a o.id ((doc H).order l) h) [
    | inl s ↦ or_left (is_same_id o.id a && is_some (inserted_after o l)) (is_item_of H l a)
        (and_from (is_same_id o.id a) (is_some (inserted_after o l)) (ap (λ b. is_same_id o.id b) (ids_from_test a o.id s) ∙ id_itself o.id)
        (ap is_some e))
    | inr r ↦ or_right (is_same_id o.id a && is_some (inserted_after o l)) (is_item_of H l a) (rest r)
  ]

-- the items of a list in a legal history are those that were inserted into it
pub items_inserted : (H : List Operation) → IsLegal H → (l : Element) (a : OpId) → has_item a ((doc H).order l) ≡ is_item_of H l a
unfolding AreThere
items_inserted H legal l a = both_ways (has_item a ((doc H).order l)) (is_item_of H l a) (item_listed H l a)
    (λ h. items_there H legal l a (item_from H l a h))
