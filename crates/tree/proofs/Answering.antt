-- What a tree answers at a node.
use Rattle.std.proofs.Common.{◌≡◌, ℕ, zero, suc, ◌+◌, ◌-◌, ◌<◌, ◌≤◌, ◌&&◌, Bool, true, false, cond, List, [], ◌∷◌, ◌++◌, length, get_or}
use Rattle.std.proofs.Common.{drop, take, map}
use Rattle.std.proofs.Common.{Some, refl, sym, ap, ◌∙◌, append-nil, arith, true≢false}
use Rattle.std.specs.Prelude.{slice_get}
use Rattle.std.specs.List.{filter}
use Rattle.std.proofs.lemmas.List.{map-append, take_all, take-append-drop, take-append-le, take_more}
use Rattle.std.proofs.lemmas.List.Elements.{filter-append}
use Rattle.std.proofs.lemmas.Option.{same_Some, none-some}
use Rattle.semantics.specs.Elements.{Element, Field, Name}
use Rattle.semantics.specs.Paths.{FieldHop}
use Rattle.semantics.specs.DocumentAnswer.{is_any}
use Rattle.tree.specs.declared.node.Node.{Node}
use Rattle.tree.specs.Nodes.{IsTree, context, is_written, links, names_in, next_number, node_in, number, presence_of}
use Rattle.tree.proofs.Links.{field_there}

-- one more of the items at the front
pub take_next : {X : Type 0} (xs : List X) (k : ℕ) (x : X) → slice_get xs k ≡ Some x → take (k + 1) xs ≡ take k xs ++ x ∷ []
take_next [] zero x e = absurd (none-some x e)
take_next [] (suc k) x e = absurd (none-some x e)
take_next (y ∷ xs) zero x e = ap (λ z. z ∷ []) (same_Some y x e)
take_next (y ∷ xs) (suc k) x e = ap (λ n. take n (y ∷ xs)) (next_is k) ∙ ap (λ zs. y ∷ zs) (take_next xs k x e) where
  next_is : (k : ℕ) → suc k + 1 ≡ suc (k + 1)
  next_is k = omega arith

names-append : (ns : List Node) (fs gs : List (Name × ℕ)) → names_in ns (fs ++ gs) ≡ names_in ns fs ++ names_in ns gs
names-append ns [] gs = refl
names-append ns (f ∷ fs) gs =
    elim (is_written (slice_get ns f.1)) as
    (λ b. cond b ((f.0, tt) ∷ names_in ns (fs ++ gs)) (names_in ns (fs ++ gs))
    ≡ cond b ((f.0, tt) ∷ names_in ns fs) (names_in ns fs) ++ names_in ns gs) [
      | true ↦ ap (λ xs. (f.0, tt) ∷ xs) (names-append ns fs gs)
      | false ↦ names-append ns fs gs
    ]

-- the name of a field that was written and that p wants
abbrev pub wanted : List Node → (Name → Bool) → Name × ℕ → List Name
wanted ns p f = cond (is_written (slice_get ns f.1) && p f.0) (f.0 ∷ []) []

wanted_is : (ns : List Node) (p : Name → Bool) (f : Name × ℕ) → filter p (map (λ x. x.0) (names_in ns (f ∷ []))) ≡ wanted ns p f
wanted_is ns p f = elim (is_written (slice_get ns f.1)) as
    (λ b. filter p (map (λ (x : Name × Unit {0}). x.0) (cond b ((f.0, tt) ∷ []) []))
    ≡ cond (b && p f.0) (f.0 ∷ []) []) [ true ↦ refl | false ↦ refl ]

-- one more of the fields at the front
pub wanted_next : (ns : List Node) (p : Name → Bool) (fs : List (Name × ℕ)) (k : ℕ) (d : Name × ℕ) → k < length fs
    → filter p (map (λ x. x.0) (names_in ns (take (k + 1) fs)))
    ≡ filter p (map (λ x. x.0) (names_in ns (take k fs))) ++ wanted ns p (get_or fs k d)
wanted_next ns p fs k d h =
    ap (λ xs. filter p (map (λ x. x.0) (names_in ns xs))) (take_more fs k d h)
    ∙ ap (λ xs. filter p (map (λ x. x.0) xs)) (names-append ns (take k fs) (get_or fs k d ∷ []))
    ∙ ap (filter p) (map-append (λ x. x.0) (names_in ns (take k fs)) (names_in ns (get_or fs k d ∷ [])))
    ∙ filter-append p (map (λ x. x.0) (names_in ns (take k fs))) (map (λ x. x.0) (names_in ns (get_or fs k d ∷ [])))
    ∙ ap (λ xs. filter p (map (λ x. x.0) (names_in ns (take k fs))) ++ xs) (wanted_is ns p (get_or fs k d))

-- fields that p doesn't want add nothing
unwanted : (ns : List Node) (p : Name → Bool) (fs : List (Name × ℕ)) (d : Name × ℕ) (count from : ℕ) → from + count ≤ length fs
    → ((i : ℕ) → from ≤ i → i < from + count → p (get_or fs i d).0 ≡ false)
    → filter p (map (λ x. x.0) (names_in ns (take (from + count) fs))) ≡ filter p (map (λ x. x.0) (names_in ns (take from fs)))
unwanted ns p fs d zero from within none = ap (λ k. filter p (map (λ x. x.0) (names_in ns (take k fs)))) (omega arith)
unwanted ns p fs d (suc count) from within none =
    let here = filter p (map (λ x. x.0) (names_in ns (take from fs))) in
    ap (λ k. filter p (map (λ x. x.0) (names_in ns (take k fs)))) (omega arith)
    ∙ unwanted ns p fs d count (from + 1) (omega (arith, within)) (λ i low high. none i (omega (arith, low)) (omega (arith, high)))
    ∙ wanted_next ns p fs from d (omega (arith, within))
    ∙ ap (λ b. here ++ cond (is_written (slice_get ns (get_or fs from d).1) && b) ((get_or fs from d).0 ∷ []) [])
    (none from (omega arith) (omega arith))
    ∙ elim (is_written (slice_get ns (get_or fs from d).1)) as (λ b. here ++ cond (b && false) ((get_or fs from d).0 ∷ []) [] ≡ here) [
      | true ↦ append-nil here
      | false ↦ append-nil here
    ]

-- nor do those from one position up to another
pub wanted_skip : (ns : List Node) (p : Name → Bool) (fs : List (Name × ℕ)) (d : Name × ℕ) (from to : ℕ) → from ≤ to → to ≤ length fs
    → ((i : ℕ) → from ≤ i → i < to → p (get_or fs i d).0 ≡ false)
    → filter p (map (λ x. x.0) (names_in ns (take to fs))) ≡ filter p (map (λ x. x.0) (names_in ns (take from fs)))
wanted_skip ns p fs d from to low high none =
    let all : from + (to - from) ≡ to = omega (arith, low) in
    ap (λ k. filter p (map (λ x. x.0) (names_in ns (take k fs)))) (sym all)
    ∙ unwanted ns p fs d (to - from) from (omega (arith, all, high)) (λ i a b. none i a (omega (arith, b, all)))

-- whether a field shows is seen at its node
pub field_shows : (ns : List Node) → IsTree ns → (e : Element) (i k j : ℕ) (d : Name × ℕ) → number ns e ≡ Some i → k < length (links ns i).0
    → number ns (Field e (get_or (links ns i).0 k d).0) ≡ Some j
    → (is_written (slice_get ns j) && is_any (presence_of (slice_get ns j)))
    ≡ (is_written (slice_get ns (get_or (links ns i).0 k d).1) && is_any ((context ns).presence (Field e (get_or (links ns i).0 k d).0)))
field_shows ns t e i k j d at h n =
    let f = get_or (links ns i).0 k d in
    let same : j ≡ f.1 = same_Some j f.1 (sym n ∙ ap (λ o. next_number ns o (FieldHop f.0)) at ∙ field_there ns t i k d h) in
    ap (λ m. is_written (slice_get ns m) && is_any (presence_of (slice_get ns j))) same
    ∙ ap (λ o. is_written (slice_get ns f.1) && is_any (presence_of (node_in ns o))) (sym n)

-- what shows among the fields at the front shows among all
pub any_within : (ns : List Node) (p : Name → Bool) (fs : List (Name × ℕ)) (k : ℕ)
    → is_any (filter p (map (λ x. x.0) (names_in ns (take k fs)))) ≡ true → is_any (filter p (map (λ x. x.0) (names_in ns fs))) ≡ true
any_within ns p [] zero h = h
any_within ns p [] (suc k) h = h
any_within ns p (f ∷ fs) zero h = absurd (true≢false (sym h))
any_within ns p (f ∷ fs) (suc k) h = by (is_written (slice_get ns f.1)) (any_within ns p fs k) h where
  kept : (shows : Bool) → (is_any (filter p (map (λ x. x.0) (names_in ns (take k fs)))) ≡ true
      → is_any (filter p (map (λ x. x.0) (names_in ns fs))) ≡ true)
      → is_any
      (cond shows (f.0 ∷ filter p (map (λ x. x.0) (names_in ns (take k fs)))) (filter p (map (λ x. x.0) (names_in ns (take k fs)))))
      ≡ true
      → is_any (cond shows (f.0 ∷ filter p (map (λ x. x.0) (names_in ns fs))) (filter p (map (λ x. x.0) (names_in ns fs)))) ≡ true
  kept true rest k = refl
  kept false rest k = rest k

  by : (written : Bool) → (is_any (filter p (map (λ x. x.0) (names_in ns (take k fs)))) ≡ true
      → is_any (filter p (map (λ x. x.0) (names_in ns fs))) ≡ true)
      → is_any
      (filter p (map (λ (x : Name × Unit {0}). x.0) (cond written ((f.0, tt) ∷ names_in ns (take k fs)) (names_in ns (take k fs)))))
      ≡ true
      → is_any (filter p (map (λ (x : Name × Unit {0}). x.0) (cond written ((f.0, tt) ∷ names_in ns fs) (names_in ns fs)))) ≡ true
  by true rest h = kept (p f.0) rest h
  by false rest h = rest h

-- those among the fields at the front, `count` of them, are the first of all
pub first_wanted : (ns : List Node) (p : Name → Bool) (fs : List (Name × ℕ)) (k count : ℕ) (some : List Name) → count ≡ length some
    → some ≡ filter p (map (λ x. x.0) (names_in ns (take k fs))) → some ≡ take count (filter p (map (λ x. x.0) (names_in ns fs)))
first_wanted ns p fs k count some long is =
    let rest = filter p (map (λ x. x.0) (names_in ns (drop k fs))) in
    let all : some ++ rest ≡ filter p (map (λ x. x.0) (names_in ns fs)) =
    ap (λ xs. xs ++ rest) is
    ∙ sym
    (ap (λ gs. filter p (map (λ x. x.0) (names_in ns gs))) (sym (take-append-drop k fs))
    ∙ ap (λ xs. filter p (map (λ x. x.0) xs)) (names-append ns (take k fs) (drop k fs))
    ∙ ap (filter p) (map-append (λ x. x.0) (names_in ns (take k fs)) (names_in ns (drop k fs)))
    ∙ filter-append p (map (λ x. x.0) (names_in ns (take k fs))) (map (λ x. x.0) (names_in ns (drop k fs)))) in
    sym (take-append-le count some rest (omega (arith, long)) ∙ take_all count some (omega (arith, long))) ∙ ap (take count) all

-- no more are wanted than there are fields
pub few_wanted : (ns : List Node) (p : Name → Bool) (fs : List (Name × ℕ)) → length (filter p (map (λ x. x.0) (names_in ns fs))) ≤ length fs
few_wanted ns p [] = omega arith
few_wanted ns p (f ∷ fs) = by (is_written (slice_get ns f.1)) (few_wanted ns p fs) where
  more : (shows : Bool) (xs : List Name) → length xs ≤ length fs → length (cond shows (f.0 ∷ xs) xs) ≤ suc (length fs)
  more true xs h = omega (arith, h)
  more false xs h = omega (arith, h)

  by : (written : Bool) → length (filter p (map (λ x. x.0) (names_in ns fs))) ≤ length fs
      → length (filter p (map (λ (x : Name × Unit {0}). x.0) (cond written ((f.0, tt) ∷ names_in ns fs) (names_in ns fs))))
      ≤ suc (length fs)
  by true h = more (p f.0) (filter p (map (λ x. x.0) (names_in ns fs))) h
  by false h = omega (arith, h)
