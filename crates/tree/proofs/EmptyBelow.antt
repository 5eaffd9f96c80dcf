-- What a clear of a list skips, and what stands once it has.
use Rattle.std.proofs.Common.{◌≡◌, ℕ, zero, suc, ◌+◌, ◌-◌, ◌<◌, ◌≤◌, nat_le, true, false, true≢false, cond, List, [], ◌∷◌, length, get_or}
use Rattle.std.proofs.Common.{drop, Bool}
use Rattle.std.proofs.Common.{Option, Some, None, is_some, refl, sym, ap, ◌∙◌, subst, arith, inl, inr}
use Rattle.std.specs.Prelude.{slice_get}
use Rattle.std.specs.FinMap.{find}
use Rattle.std.specs.List.{filter}
use Rattle.std.proofs.lemmas.Bool.{cases_lt, false_from_ne_true, le-leb, leb-false, true_from_ne_false}
use Rattle.std.proofs.lemmas.List.{drop_more}
use Rattle.semantics.specs.Ids.{OpId, IdSet, id_cmp, is_same_id}
use Rattle.semantics.specs.Elements.{Element, Field, Item, Name, is_under}
use Rattle.semantics.specs.Paths.{ItemHop}
use Rattle.semantics.specs.Context.{Context, clear, without}
use Rattle.semantics.specs.DocumentAnswer.{is_any}
use Rattle.semantics.proofs.CollectedEntries.{found_kept}
use Rattle.semantics.proofs.Orders.{ids_from_test}
use Rattle.tree.specs.declared.node.Node.{Node}
use Rattle.tree.specs.Nested.{IsNested}
use Rattle.tree.specs.Nodes.{context, empty_below_of, links, node_in, number, presence_of}
use Rattle.tree.specs.Shown.{AreEmpty, IsEmptyBelow}
use Rattle.tree.specs.Writes.{fields_of, items_of}
use Rattle.tree.proofs.Clears.{clear_each}
use Rattle.tree.proofs.Nested.{clear_empty, nested_clear}
use Rattle.tree.proofs.Shape.{number_child}

pub none_any : {X : Type 0} (xs : List X) → is_any xs ≡ false → xs ≡ []
none_any [] e = refl
none_any (x ∷ xs) e = absurd (true≢false e)

-- a clear, whether it reaches or not, leaves nothing where nothing is
pub left_none : {X : Type 0} (S : IdSet) (b : Bool) (es : List (OpId × X)) → is_any es ≡ false → is_any (cond b (without S es) es) ≡ false
left_none {X} S b es e = ap (λ xs. is_any (cond b (without S xs) xs)) (none_any es e) ∙ nothing b
  where
    nothing : (b : Bool) → is_any (cond b (without {X = X} S []) []) ≡ false
    nothing true = refl
    nothing false = refl

clear_none : (C : Context) (t : Element) (S : IdSet) (x : Element) → is_any (C.presence x) ≡ false
    → is_any ((clear C t S).presence x) ≡ false
clear_none C t S x = left_none S (is_under x t) (C.presence x)

-- what stands after a clear stood before it
pub stood_before : (C : Context) (t : Element) (S : IdSet) (x : Element) → is_any ((clear C t S).presence x) ≡ true
    → is_any (C.presence x) ≡ true
stood_before C t S x any = true_from_ne_false (is_any (C.presence x)) (λ none. true≢false (sym any ∙ clear_none C t S x none))

-- items at which nothing stands needn't be cleared
pub past_empty : (e : Element) (S : IdSet) (p : OpId → Bool) (es : List (OpId × ℕ)) (C : Context) → IsNested C
    → ((a : OpId) → p a ≡ false → is_any (C.presence (Item e a)) ≡ false)
    → clear_each C (items_of e (filter (λ x. p x.0) es)) S ≡ clear_each C (items_of e es) S
past_empty e S p [] C n none = refl
past_empty e S p (x ∷ xs) C n none =
    let D = clear C (Item e x.0) S in
    by (p x.0) refl (past_empty e S p xs D (nested_clear C (Item e x.0) S n) (λ a f. clear_none C (Item e x.0) S (Item e a) (none a f)))
    (past_empty e S p xs C n none)
  where
    by : (b : Bool) → p x.0 ≡ b
        → clear_each (clear C (Item e x.0) S) (items_of e (filter (λ y. p y.0) xs)) S
        ≡ clear_each (clear C (Item e x.0) S) (items_of e xs) S
        → clear_each C (items_of e (filter (λ y. p y.0) xs)) S ≡ clear_each C (items_of e xs) S
        → clear_each C (items_of e (cond b (x ∷ filter (λ y. p y.0) xs) (filter (λ y. p y.0) xs))) S
        ≡ clear_each (clear C (Item e x.0) S) (items_of e xs) S
    by true q first rest = first
    by false q first rest = rest
        ∙ ap (λ C. clear_each C (items_of e xs) S) (clear_empty C (Item e x.0) S n (none_any (C.presence (Item e x.0)) (none x.0 q)))

-- where the bound is 0, the loop comes to each
pub all_left : (g : ℕ) → g ≡ 0 → (es : List (OpId × ℕ)) → es ≡ filter (λ x. nat_le g x.0.counter) es
all_left g none [] = refl
all_left g none (x ∷ xs) =
    let rest = filter (λ (y : OpId × ℕ). nat_le g y.0.counter) xs in
    ap (λ ys. x ∷ ys) (all_left g none xs) ∙ ap (λ b. cond b (x ∷ rest) rest) (sym (le-leb g x.0.counter (omega (arith, none))))

-- what stands at an item of e has a node, and so it is among the items
found_there : (ns : List Node) (e : Element) (i : ℕ) → number ns e ≡ Some i → (a : OpId)
    → is_any ((context ns).presence (Item e a)) ≡ true → is_some (find id_cmp a (links ns i).1) ≡ true
found_there ns e i at a any = by (number ns (Item e a)) refl
  where
    by : (o : Option ℕ) → number ns (Item e a) ≡ o → is_some (find id_cmp a (links ns i).1) ≡ true
    by None p = absurd (true≢false (sym any ∙ ap (λ o. is_any (presence_of (node_in ns o))) p))
    by (Some j) p = ap is_some (sym (number_child ns e i (ItemHop a) at) ∙ p)

module _ (ns : List Node) (e : Element) (i : ℕ) (at : number ns e ≡ Some i) (empty : AreEmpty ns) where
  below : IsEmptyBelow ns e (empty_below_of (slice_get ns i))
  below a lt = empty.items e a (subst (λ o. a.counter < empty_below_of (node_in ns o)) (sym at) lt)

  -- nothing stands at the items that the loop doesn't come to
  pub none_before : (a : OpId) → nat_le (empty_below_of (slice_get ns i)) a.counter ≡ false
      → is_any ((context ns).presence (Item e a)) ≡ false
  none_before a f = below a (leb-false (empty_below_of (slice_get ns i)) a.counter f)

  -- so what stands is among the others
  pub stands_behind : (a : OpId) → is_any ((context ns).presence (Item e a)) ≡ true
      → is_some (find id_cmp a (filter (λ x. nat_le (empty_below_of (slice_get ns i)) x.0.counter) (links ns i).1)) ≡ true
  stands_behind a any =
      let g = empty_below_of (slice_get ns i) in
      ap is_some (found_kept (λ b. nat_le g b.counter) a (links ns i).1)
      ∙ ap (λ b. is_some (cond b (find id_cmp a (links ns i).1) None)) {y = true} (elim (cases_lt a.counter g) [
        | inl lt ↦ absurd (true≢false (sym any ∙ below a lt))
        | inr le ↦ le-leb g a.counter le
      ])
      ∙ found_there ns e i at a any

-- what is among those left, and isn't the next, is among those behind it
pub stands_more : (a : OpId) (xs : List (OpId × ℕ)) (k : ℕ) (d : OpId × ℕ) → k < length xs → (a ≡ (get_or xs k d).0 → ⊥)
    → is_some (find id_cmp a (drop k xs)) ≡ true → is_some (find id_cmp a (drop (k + 1) xs)) ≡ true
stands_more a xs k d inside other there =
    by (is_same_id a (get_or xs k d).0) refl (sym (ap (λ ys. is_some (find id_cmp a ys)) (drop_more xs k d inside)) ∙ there)
  where
    by : (b : Bool) → is_same_id a (get_or xs k d).0 ≡ b
        → is_some (cond b (Some (get_or xs k d).1) (find id_cmp a (drop (k + 1) xs))) ≡ true
        → is_some (find id_cmp a (drop (k + 1) xs)) ≡ true
    by true q h = absurd (other (ids_from_test a (get_or xs k d).0 q))
    by false q h = h

-- where none is left, nothing stands
pub none_left : (ns : List Node) (e : Element) (g : ℕ) (xs : List (OpId × ℕ)) → xs ≡ []
    → ((a : OpId) → a.counter < g → is_any ((context ns).presence (Item e a)) ≡ true → is_some (find id_cmp a xs) ≡ true)
    → IsEmptyBelow ns e g
none_left ns e g xs none left a lt = false_from_ne_true (is_any ((context ns).presence (Item e a)))
    (λ any. true≢false (sym (left a lt any) ∙ ap (λ ys. is_some (find id_cmp a ys)) none))

-- a run of fields at which nothing stands needn't be cleared
past_count : (e : Element) (S : IdSet) (fs : List (Name × ℕ)) (C : Context) (d : Name × ℕ) → IsNested C → (count from : ℕ)
    → from + count ≤ length fs
    → ((i : ℕ) → from ≤ i → i < from + count → is_any (C.presence (Field e (get_or fs i d).0)) ≡ false)
    → clear_each C (fields_of e (drop from fs)) S ≡ clear_each C (fields_of e (drop (from + count) fs)) S
past_count e S fs C d n zero from within none = ap (λ k. clear_each C (fields_of e (drop k fs)) S) (omega arith)
past_count e S fs C d n (suc count) from within none =
    ap (λ ys. clear_each C (fields_of e ys) S) (drop_more fs from d (omega (arith, within)))
    ∙ ap (λ D. clear_each D (fields_of e (drop (from + 1) fs)) S)
    (sym (clear_empty C (Field e (get_or fs from d).0) S n
    (none_any (C.presence (Field e (get_or fs from d).0)) (none from (omega arith) (omega arith)))))
    ∙ past_count e S fs C d n count (from + 1) (omega (arith, within)) (λ i low high. none i (omega (arith, low)) (omega (arith, high)))
    ∙ ap (λ k. clear_each C (fields_of e (drop k fs)) S) (omega arith)

-- nor those from one position up to another
pub past_fields : (e : Element) (S : IdSet) (fs : List (Name × ℕ)) (C : Context) (d : Name × ℕ) → IsNested C → (from to : ℕ)
    → from ≤ to → to ≤ length fs → ((i : ℕ) → from ≤ i → i < to → is_any (C.presence (Field e (get_or fs i d).0)) ≡ false)
    → clear_each C (fields_of e (drop from fs)) S ≡ clear_each C (fields_of e (drop to fs)) S
past_fields e S fs C d n from to low high none =
    let all : from + (to - from) ≡ to = omega (arith, low) in
    past_count e S fs C d n (to - from) from (omega (arith, all, high)) (λ i a b. none i a (omega (arith, b, all)))
    ∙ ap (λ k. clear_each C (fields_of e (drop k fs)) S) all
