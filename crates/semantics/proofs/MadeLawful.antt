-- A made operation may follow the history that it was made in.
use Rattle.std.proofs.Common.{◌≡◌, inl, inr, ℕ, zero, suc, ◌≤◌, le_antisymm, Bool, true, false, cond, nat_le, List, [], ◌∷◌, Result, Ok}
use Rattle.std.proofs.Common.{Err}
use Rattle.std.proofs.Common.{refl, ap, subst, arith, slice_get}
use Rattle.semantics.specs.Ids.{OpId, id_at}
use Rattle.semantics.specs.Elements.{Element, Doc, Field, Item, Place, At, HeadOf, depth}
use Rattle.semantics.specs.Operations.{Operation, Mutation, Assign, Insert, Delete, misplaced, element_of}
use Rattle.semantics.specs.LegalHistory.{IsLegal, Follows, has_id, greatest_of, ItemsStand, IsFormed}
use Rattle.semantics.specs.Context.{doc, has_item}
use Rattle.ids.specs.declared.refusal.Refusal.{Refusal}
use Rattle.ids.specs.declared.refusal.Refusal.TheVariants.{TooDeep, PastEnd, HistoryFull}
use Rattle.semantics.specs.Questions.{Step, Get, Idx, ById, resolve, walk_from, step_from, enter, item_at}
use Rattle.semantics.specs.DocumentAnswer.{lists_of, visible_items, is_any}
use Rattle.semantics.specs.Making.{Command, make, place_unless, then_place, operation_at, is_full}
use Rattle.semantics.proofs.AbsentIds.{has_id-among}
use Rattle.semantics.proofs.LegalFacts.{counted, greatest_cases, deps_there}
use Rattle.semantics.proofs.ItemTests.{item_from}
use Rattle.semantics.proofs.ListedItems.{AllInserted, inserted_filter, order_inserted}
use Rattle.semantics.proofs.PlacedItems.{item_among, item_listed}

module _ (H : List Operation) where
  -- the items on the way to a place stand in H
  abbrev Stands : Result Place Refusal → Type 0
  Stands (Err r) = Unit {0}
  Stands (Ok p) = ItemsStand H (has_id H) (element_of p)

  item_stands : (e : Element) → ItemsStand H (has_id H) e → (ids : List OpId) → AllInserted H e ids → (i : ℕ)
      → Stands (item_at e (slice_get ids i))
  item_stands e st [] h i = tt
  item_stands e st (a ∷ ids) h zero = (has_id-among H h.0.0 a h.0.1 h.0.2, h.0, st)
  item_stands e st (a ∷ ids) h (suc i) = item_stands e st ids h.1 i

  listed_stands : (e : Element) → ItemsStand H (has_id H) e → (a : OpId) (listed : Bool) → has_item a ((doc H).order e) ≡ listed
      → Stands (cond listed (Ok (At (Item e a))) (Err PastEnd))
  listed_stands e st a true is = (item_among H e a is, item_from H e a (item_listed H e a is), st)
  listed_stands e st a false is = tt

  enter_stands : (e : Element) → ItemsStand H (has_id H) e → (s : Step) → Stands (enter (lists_of (doc H)) e s)
  enter_stands e st (Get n) = st
  enter_stands e st (Idx zero) = st
  enter_stands e st (Idx (suc i)) = item_stands e st (visible_items (doc H) e)
      (inserted_filter H e (λ a. is_any ((doc H).presence (Item e a))) ((doc H).order e) (order_inserted H e)) i
  enter_stands e st (ById a) = listed_stands e st a (has_item a ((doc H).order e)) refl

  step_stands : (p : Place) → ItemsStand H (has_id H) (element_of p) → (s : Step) → Stands (step_from (lists_of (doc H)) p s)
  step_stands (HeadOf l) st s = tt
  step_stands (At e) st s = elim (nat_le 32 (depth e)) as
      (λ b. Stands (cond b (Err TooDeep) (enter (lists_of (doc H)) e s))) [ true ↦ tt | false ↦ enter_stands e st s ]

  walk_stands : (steps : List Step) (r : Result Place Refusal) → Stands r → Stands (walk_from (lists_of (doc H)) steps r)
  walk_stands [] (Err r) st = tt
  walk_stands (s ∷ steps) (Err r) st = tt
  walk_stands [] (Ok p) st = st
  walk_stands (s ∷ steps) (Ok p) st = walk_stands steps (step_from (lists_of (doc H)) p s) (step_stands p st s)

  all_counted : greatest_of (λ a. true) H ≡ greatest_of (has_id H) H
  all_counted = le_antisymm
      (elim (greatest_cases (λ a. true) H) [
        | inl z ↦ omega arith
        | inr r ↦ (let k : r.0.id.counter ≤ greatest_of (has_id H) H = counted (has_id H) H r.0 r.1 (has_id-among H r.0 r.0.id r.1 refl) in
            let e : r.0.id.counter ≡ greatest_of (λ a. true) H = r.3 in omega arith)
      ])
      (elim (greatest_cases (has_id H) H) [
        | inl z ↦ omega arith
        | inr r ↦ (let k : r.0.id.counter ≤ greatest_of (λ a. true) H = counted (λ a. true) H r.0 r.1 refl in
            let e : r.0.id.counter ≡ greatest_of (has_id H) H = r.3 in omega arith)
      ])

  made_follows : IsLegal H → (p : ℕ) (m : Mutation) (place : Place) → IsFormed m place → ItemsStand H (has_id H) (element_of place)
      → Follows H (record { id = id_at (suc (greatest_of (λ a. true) H)) p; deps = has_id H; place = place; mutation = m })
  made_follows legal p m place form st = record {
    new_id = λ x k e.
        let c : x.id.counter ≤ greatest_of (λ a. true) H = counted (λ a. true) H x k refl in
        let is : x.id.counter ≡ suc (greatest_of (λ a. true) H) = ap (λ (a : OpId). a.counter) e in
        omega arith;
    deps_before = λ a d. d;
    deps_closed = λ x k d a e. deps_there H legal x k a e;
    own_in_deps = λ x k r. has_id-among H x x.id k refl;
    counter = ap suc all_counted;
    items = st;
    form = form;
  }

  -- what is made may follow, has an id of p, and depends on all that was applied
  abbrev pub IsLawful : ℕ → Operation → Type 0
  IsLawful p o = Follows H o × (o.id.replica ≡ p) × ((a : OpId) → o.deps a ≡ has_id H a)

  abbrev pub MakesLawful : ℕ → Result Operation Refusal → Type 0
  MakesLawful p (Err r) = Unit {0}
  MakesLawful p (Ok o) = IsLawful p o

  placed : IsLegal H → (p : ℕ) (m : Mutation) (place : Place) → ItemsStand H (has_id H) (element_of place)
      → MakesLawful p (operation_at H p m (place_unless (misplaced m place) place))
  placed legal p (Insert v) (HeadOf l) st = (made_follows legal p (Insert v) (HeadOf l) refl st, refl, λ a. refl)
  placed legal p (Insert v) (At (Item l a)) st = (made_follows legal p (Insert v) (At (Item l a)) refl st, refl, λ a. refl)
  placed legal p (Insert v) (At Doc) st = tt
  placed legal p (Insert v) (At (Field e n)) st = tt
  placed legal p (Assign v) (At e) st = (made_follows legal p (Assign v) (At e) refl st, refl, λ a. refl)
  placed legal p (Assign v) (HeadOf l) st = tt
  placed legal p Delete (At e) st = (made_follows legal p Delete (At e) refl st, refl, λ a. refl)
  placed legal p Delete (HeadOf l) st = tt

  resolved : IsLegal H → (p : ℕ) (m : Mutation) (r : Result Place Refusal) → Stands r → MakesLawful p (operation_at H p m (then_place m r))
  resolved legal p m (Err r) st = tt
  resolved legal p m (Ok place) st = placed legal p m place st

  makes_lawful : IsLegal H → (p : ℕ) (c : Command) → MakesLawful p (make H p c)
  makes_lawful legal p c =
      let ok = resolved legal p c.mutation (resolve (lists_of (doc H)) c.expression) (walk_stands c.expression (Ok (At Doc)) tt) in
      elim (is_full H) as
      (λ b. MakesLawful p
      (cond b (Err HistoryFull)
      (operation_at H p c.mutation
      (then_place c.mutation (resolve (lists_of (doc H)) c.expression))))) [ true ↦ tt | false ↦ ok ]

  -- What is made is lawful.
  pub made_lawful : IsLegal H → (p : ℕ) (c : Command) (o : Operation) → make H p c ≡ Ok o → IsLawful p o
  made_lawful legal p c o e = subst (MakesLawful p) e (makes_lawful legal p c)
