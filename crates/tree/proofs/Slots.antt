-- Where an insert goes, by the path of its place.
use Rattle.std.proofs.Common.{◌≡◌, true, false, true≢false, List, [], ◌∷◌, ◌++◌, Option, Some, None, refl, sym, ap, ◌∙◌}
use Rattle.std.specs.Option.{unwrap_or}
use Rattle.semantics.specs.Ids.{OpId}
use Rattle.semantics.specs.Elements.{Element, Doc, Field, Item, Place, At, HeadOf, Value, EmptyMap}
use Rattle.semantics.specs.LegalHistory.{IsFormed}
use Rattle.semantics.specs.Operations.{Insert, element_of, slot_of}
use Rattle.semantics.specs.Paths.{Hop, ItemHop, hops_from_root}
use Rattle.semantics.proofs.ElementPaths.{down-append, down-hops_from_root}
use Rattle.operation.specs.cursor.Places.{is_head}
use Rattle.tree.specs.Writes.{end_of}
use Rattle.tree.proofs.Writes.{after_place}

pub head_slot : (p : Place) (path : List Hop) → is_head p ≡ true → path ≡ hops_from_root (element_of p)
    → slot_of (Insert EmptyMap) p ≡ Some (end_of path, None)
head_slot (At e) path h q = absurd (true≢false (sym h))
head_slot (HeadOf l) path h q = ap (λ x. Some (x, None)) (sym (ap end_of q ∙ down-hops_from_root l))

pub item_slot : (p : Place) (list : List Hop) (a : OpId) → is_head p ≡ false → list ++ ItemHop a ∷ [] ≡ hops_from_root (element_of p)
    → slot_of (Insert EmptyMap) p ≡ Some (end_of list, Some a)
item_slot (HeadOf l) list a h q = absurd (true≢false h)
item_slot (At e) list a h q =
    let item : e ≡ Item (end_of list) a = sym (sym (down-append Doc list (ItemHop a ∷ [])) ∙ ap end_of q ∙ down-hops_from_root e) in
    ap (λ x. slot_of (Insert EmptyMap) (At x)) item

pub one_slot : (o : Option (Element × Option OpId)) (a b : Element × Option OpId) → o ≡ Some a → o ≡ Some b → a ≡ b
one_slot o a b p q = ap (λ o. unwrap_or o a) (sym p ∙ q)

-- an insert at a place of the right form has a slot, and the place is what it goes after
pub formed_slot : (v : Value) (p : Place) → IsFormed (Insert v) p
    → (l : Element) × (prev : Option OpId) × (slot_of (Insert EmptyMap) p ≡ Some (l, prev)) × (after_place prev l ≡ p)
formed_slot v (HeadOf l) f = (l, None, refl, refl)
formed_slot v (At (Item l b)) f = (l, Some b, refl, refl)
formed_slot v (At Doc) f = cc
formed_slot v (At (Field e n)) f = cc

-- the slot doesn't depend on the value
pub slot_of_any : (v : Value) (p : Place) → slot_of (Insert v) p ≡ slot_of (Insert EmptyMap) p
slot_of_any v (HeadOf l) = refl
slot_of_any v (At Doc) = refl
slot_of_any v (At (Field e n)) = refl
slot_of_any v (At (Item l a)) = refl
