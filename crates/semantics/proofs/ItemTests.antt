-- The test of an item decides whether it was inserted into that very list.
use Rattle.std.proofs.Common.{◌≡◌, inl, inr, Bool, true, false, cond, ◌&&◌, List, [], ◌∷◌, Option, Some, None, is_some, refl, sym, ap, ◌∙◌}
use Rattle.std.proofs.Common.{true≢false}
use Rattle.std.proofs.lemmas.Bool.{or_cases, or_right, or_left, and_parts, and_from}
use Rattle.semantics.specs.Ids.{OpId, IdSet, is_same_id}
use Rattle.semantics.specs.Elements.{Element, Doc, Field, Item, is_same}
use Rattle.semantics.specs.Operations.{Operation, slot_of, after_in, inserted_after}
use Rattle.semantics.specs.LegalHistory.{IsAmong, IsItemOf, ItemsStand, has_id}
use Rattle.semantics.specs.Vectors.{Vector, covers}
use Rattle.semantics.specs.NamedIds.{names}
use Rattle.semantics.specs.Faults.{items_covered, is_item_of, items_were_inserted}
use Rattle.semantics.proofs.Orders.{ids_from_test, id_tested, same_elements, element_itself}
use Rattle.semantics.proofs.AbsentIds.{has_id-among}

pub slot_from : (l : Element) (r : Option (Element × Option OpId)) → is_some (after_in l r) ≡ true
    → (after : Option OpId) × (r ≡ Some (l, after))
slot_from l None h = absurd (true≢false (sym h))
slot_from l (Some slot) h = (slot.1, at_test (is_same slot.0 l) refl h)
  where
    at_test : (b : Bool) → is_same slot.0 l ≡ b → is_some (cond b (Some slot.1) None) ≡ true → Some slot ≡ Some (l, slot.1)
    at_test true e h = let q : slot.0 ≡ l = same_elements slot.0 l e in λ i. Some (q i, slot.1)
    at_test false e h = absurd (true≢false (sym h))

slot_test : (l : Element) (after : Option OpId) (r : Option (Element × Option OpId)) → r ≡ Some (l, after) → is_some (after_in l r) ≡ true
slot_test l after r e = ap (λ (y : Option (Element × Option OpId)). is_some (after_in l y)) e
    ∙ ap (λ b. is_some (cond b (Some after) None)) (element_itself l)

pub item_from : (G : List Operation) (l : Element) (a : OpId) → is_item_of G l a ≡ true → IsItemOf G l a
item_from [] l a h = absurd (true≢false (sym h))
item_from (o ∷ G) l a h =
    elim (or_cases (is_same_id o.id a && is_some (inserted_after o l)) (is_item_of G l a) h) [
      | inl e ↦ (let both = and_parts (is_same_id o.id a) (is_some (inserted_after o l)) e in
          (o, inl refl, ids_from_test o.id a both.0, slot_from l (slot_of o.mutation o.place) both.1))
      | inr e ↦ (let r = item_from G l a e in (r.0, inr r.1, r.2, r.3))
    ]

pub item_test : (G : List Operation) (l : Element) (a : OpId) → IsItemOf G l a → is_item_of G l a ≡ true
item_test G l a (x, m, e, slot) = passing G m
  where
    here : (o : Operation) → x ≡ o → (is_same_id o.id a && is_some (inserted_after o l)) ≡ true
    here o p = ap (λ (y : Operation). is_same_id y.id a && is_some (inserted_after y l)) (sym p)
        ∙ and_from (is_same_id x.id a) (is_some (inserted_after x l)) (id_tested x.id a e)
        (slot_test l slot.0 (slot_of x.mutation x.place) slot.1)

    passing : (G : List Operation) → IsAmong x G → is_item_of G l a ≡ true
    passing [] m = absurd m
    passing (o ∷ G) (inl p) = or_left (is_same_id o.id a && is_some (inserted_after o l)) (is_item_of G l a) (here o p)
    passing (o ∷ G) (inr m) = or_right (is_same_id o.id a && is_some (inserted_after o l)) (is_item_of G l a) (passing G m)

item_there : (G : List Operation) (l : Element) (a : OpId) → IsItemOf G l a → has_id G a ≡ true
item_there G l a (x, m, e, slot) = has_id-among G x a m e

pub items_from : (G : List Operation) (v : Vector) (e : Element) → items_were_inserted G e ≡ true → items_covered v e ≡ true
    → ItemsStand G (names G v) e
items_from G v Doc h c = tt
items_from G v (Field e n) h c = items_from G v e h c
items_from G v (Item l a) h c =
    let hs = and_parts (is_item_of G l a) (items_were_inserted G l) h in
    let cs = and_parts (covers v a) (items_covered v l) c in
    let it = item_from G l a hs.0 in
    (and_from (has_id G a) (covers v a) (item_there G l a it) cs.0, it, items_from G v l hs.1 cs.1)

pub items_test : (G : List Operation) (S : IdSet) (e : Element) → ItemsStand G S e → items_were_inserted G e ≡ true
items_test G S Doc h = refl
items_test G S (Field e n) h = items_test G S e h
items_test G S (Item l a) h = and_from (is_item_of G l a) (items_were_inserted G l) (item_test G l a h.1) (items_test G S l h.2)

pub items_cover : (G : List Operation) (v : Vector) (e : Element) → ItemsStand G (names G v) e → items_covered v e ≡ true
items_cover G v Doc h = refl
items_cover G v (Field e n) h = items_cover G v e h
items_cover G v (Item l a) h = and_from (covers v a) (items_covered v l) (and_parts (has_id G a) (covers v a) h.0).1 (items_cover G v l h.2)
