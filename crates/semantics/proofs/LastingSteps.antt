-- An expression that counts no items leads to the same place in each later document, and what a list shows can be entered by its id.
use Rattle.std.proofs.Common.{◌≡◌, Bool, true, false, cond, nat_le, ◌<◌, List, [], ◌∷◌, ◌++◌, Result, Ok, Err, refl, sym, ap, ◌∙◌}
use Rattle.std.proofs.Common.{true≢false}
use Rattle.std.proofs.Common.{zero, suc}
use Rattle.std.specs.List.{filter, list_all}
use Rattle.std.proofs.lemmas.Bool.{and_parts, lt-leb, or_right}
use Rattle.ids.specs.declared.refusal.Refusal.{Refusal}
use Rattle.ids.specs.declared.refusal.Refusal.TheVariants.{PastEnd, TooDeep}
use Rattle.semantics.specs.Ids.{OpId, is_same_id}
use Rattle.semantics.specs.Elements.{Element, Doc, Item, Place, At, HeadOf, depth}
use Rattle.semantics.specs.Operations.{Operation}
use Rattle.semantics.specs.Context.{doc, has_item}
use Rattle.semantics.specs.Questions.{Step, Get, Idx, ById, Lists, counts_none, enter, step_from, walk_from, resolve}
use Rattle.semantics.specs.DocumentAnswer.{is_any, lists_of, visible_items}
use Rattle.semantics.proofs.PlacedItems.{keeps_first, order_keeps}

-- where each list of M has all that it has in L
module _ (L M : Lists) (grown : (l : Element) (a : OpId) → has_item a (L.all l) ≡ true → has_item a (M.all l) ≡ true) where
  listed_stays : (e : Element) (a : OpId) (p : Place) (listed : Bool) → has_item a (L.all e) ≡ listed
      → ◌≡◌ {A = Result Place Refusal} (cond listed (Ok (At (Item e a))) (Err PastEnd)) (Ok p) → enter M e (ById a) ≡ Ok p
  listed_stays e a p true there is = ap (λ b. cond b (Ok (At (Item e a))) (Err PastEnd)) (grown e a there) ∙ is
  listed_stays e a p false there is = absurd (cc)

  enter_stays : (e : Element) (s : Step) → counts_none s ≡ true → (p : Place) → enter L e s ≡ Ok p → enter M e s ≡ Ok p
  enter_stays e (Get n) fixed p is = is
  enter_stays e (Idx zero) fixed p is = is
  enter_stays e (Idx (suc i)) fixed p is = absurd (true≢false (sym fixed))
  enter_stays e (ById a) fixed p is = listed_stays e a p (has_item a (L.all e)) refl is

  step_stays : (q : Place) (s : Step) → counts_none s ≡ true → (p : Place) → step_from L q s ≡ Ok p → step_from M q s ≡ Ok p
  step_stays (HeadOf l) s fixed p is = is
  step_stays (At e) s fixed p is = by (nat_le 32 (depth e)) is where
    by : (deep : Bool) → cond deep (Err TooDeep) (enter L e s) ≡ Ok p → cond deep (Err TooDeep) (enter M e s) ≡ Ok p
    by true deep = deep
    by false entered = enter_stays e s fixed p entered

  walk_stays : (steps : List Step) (r : Result Place Refusal) → list_all counts_none steps ≡ true → (p : Place)
      → walk_from L steps r ≡ Ok p → walk_from M steps r ≡ Ok p
  walk_stays [] r fixed p is = elim r as (λ r. walk_from L [] r ≡ Ok p → walk_from M [] r ≡ Ok p) [ Ok q ↦ λ i. i | Err e ↦ λ i. i ] is
  walk_stays (s ∷ steps) (Err e) fixed p is = is
  walk_stays (s ∷ steps) (Ok q) fixed p is =
      let (one, others) = and_parts (counts_none s) (list_all counts_none steps) fixed in
      by (step_from L q s) refl one (λ r. walk_stays steps r others p) is where
        by : (r : Result Place Refusal) → step_from L q s ≡ r → counts_none s ≡ true
            → ((t : Result Place Refusal) → walk_from L steps t ≡ Ok p → walk_from M steps t ≡ Ok p)
            → walk_from L steps r ≡ Ok p → walk_from M steps (step_from M q s) ≡ Ok p
        by (Ok t) at one rest i = ap (walk_from M steps) (step_stays q s one t at) ∙ rest (Ok t) i
        by (Err e) at one rest i = absurd (refused steps i) where
          refused : (xs : List Step) → walk_from L xs (Err e) ≡ Ok p → ⊥
          refused [] i = cc
          refused (x ∷ xs) i = cc

-- after more operations J, an expression that counts no items leads to where it led before
pub steps_stay : (J H : List Operation) (x : List Step) (p : Place) → list_all counts_none x ≡ true
    → resolve (lists_of (doc H)) x ≡ Ok p → resolve (lists_of (doc (J ++ H))) x ≡ Ok p
steps_stay [] H x p fixed is = is
steps_stay (o ∷ J) H x p fixed is = walk_stays (lists_of (doc (J ++ H))) (lists_of (doc (o ∷ (J ++ H)))) (order_keeps (J ++ H) o) x
    (Ok (At Doc))
    fixed p (steps_stay J H x p fixed is)

-- one step more from where the steps lead
walk_on : (L : Lists) (steps : List Step) (r : Result Place Refusal) (s : Step) (p : Place) → walk_from L steps r ≡ Ok p
    → walk_from L (steps ++ s ∷ []) r ≡ step_from L p s
walk_on L [] (Ok q) s p is = by (step_from L q s) refl where
  by : (r : Result Place Refusal) → step_from L q s ≡ r → walk_from L [] r ≡ step_from L p s
  by (Ok t) at = let same : q ≡ p = cc in sym at ∙ ap (λ q. step_from L q s) same
  by (Err e) at = let same : q ≡ p = cc in sym at ∙ ap (λ q. step_from L q s) same
walk_on L [] (Err e) s p is = absurd (cc)
walk_on L (t ∷ steps) (Ok q) s p is = walk_on L steps (step_from L q t) s p is
walk_on L (t ∷ steps) (Err e) s p is = absurd (cc)

filter_within : (t : OpId → Bool) (a : OpId) (xs : List OpId) → has_item a (filter t xs) ≡ true → has_item a xs ≡ true
filter_within t a [] h = h
filter_within t a (x ∷ xs) h = by (t x) (filter_within t a xs) h where
  by : (kept : Bool) → (has_item a (filter t xs) ≡ true → has_item a xs ≡ true)
      → has_item a (cond kept (x ∷ filter t xs) (filter t xs)) ≡ true → has_item a (x ∷ xs) ≡ true
  by true rest k = keeps_first a x (filter t xs) xs rest k
  by false rest k = or_right (is_same_id a x) (has_item a xs) (rest k)

-- what the list shows that an expression leads to can be entered by its id, where there is room for one more key
pub shown_enters : (H : List Operation) (x : List Step) (l : Element) (a : OpId) → resolve (lists_of (doc H)) x ≡ Ok (At l) → depth l < 32
    → has_item a (visible_items (doc H) l) ≡ true → resolve (lists_of (doc H)) (x ++ ById a ∷ []) ≡ Ok (At (Item l a))
shown_enters H x l a is room shown =
    walk_on (lists_of (doc H)) x (Ok (At Doc)) (ById a) (At l) is
    ∙ ap (λ b. cond b (Err TooDeep) (enter (lists_of (doc H)) l (ById a))) (lt-leb 32 (depth l) room)
    ∙ ap (λ b. cond b (Ok (At (Item l a))) (Err PastEnd))
    (filter_within (λ a. is_any ((doc H).presence (Item l a))) a ((doc H).order l) shown)
