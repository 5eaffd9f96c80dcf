-- Views, and what tests of them imply.
use Rattle.std.proofs.Common.{◌≡◌, ℕ, Bool, ◌&&◌, List, [], ◌∷◌, map, nat_eq, slice_get, Some, None, true, refl, sym, ap, ap₂, ◌∙◌, arith}
use Rattle.std.proofs.Common.{Vec, Global}
use Rattle.std.specs.Bool.{Decides}
use Rattle.std.specs.List.{All, list_all}
use Rattle.std.specs.Cmp.{unsigned_Decides}
use Rattle.std.specs.Cmp.Lexicographic.{pointwise}
use Rattle.std.proofs.lemmas.Bool.Decides.{Decides-and, Decides-by_and}
use Rattle.std.proofs.lemmas.Slice.Eq.{slice_eq-Decides}
use Rattle.semantics.specs.Ids.{OpId}
use Rattle.semantics.specs.Elements.{Scalar}
use Rattle.peer_sync.specs.value.SameValues.{is_same_scalar, scalar_decides}
use Rattle.std.proofs.lemmas.List.Folds.{list_all-map}
use Rattle.std.specs.Cmp.Derive.Mapped.{pointwise-map}
use Rattle.peer_sync.specs.value.declared.value.Scalar.{Scalar as Given}
use Rattle.peer_sync.specs.value.Values.{scalar_of}
use Rattle.bench.specs.declared.showing.Shown.{Shown}
use Rattle.bench.specs.Showing.{ShowAlike, View, is_same_view, is_same_written, view_of}

-- a test of three parts decides whether all of them hold, if they hold exactly when P does
joined : {A B P : Type 0} (x y : Bool) → Decides x A → Decides y B → (A × B → P) → (P → A × B) → Decides (x && y) P
joined x y a b to from = let both = Decides-and x y a b in (λ t. to (both.0 t), λ p. both.1 (from p))

pub written_decides : (p q : OpId × Scalar) → Decides (is_same_written p q) (p ≡ q)
written_decides p q =
    let ids : Decides (nat_eq p.0.counter q.0.counter && nat_eq p.0.replica q.0.replica) (p.0 ≡ q.0) =
    joined (nat_eq p.0.counter q.0.counter) (nat_eq p.0.replica q.0.replica) (unsigned_Decides p.0.counter q.0.counter)
    (unsigned_Decides p.0.replica q.0.replica)
    (λ h i. record { counter = h.0 i; replica = h.1 i }) (λ e. (λ i. (e i).counter, λ i. (e i).replica)) in
    joined (nat_eq p.0.counter q.0.counter && nat_eq p.0.replica q.0.replica) (is_same_scalar p.1 q.1) ids (scalar_decides p.1 q.1)
    (λ h i. (h.0 i, h.1 i)) (λ e. (λ i. (e i).0, λ i. (e i).1))

lists_decide : {A : Type 0} (E : A → A → Bool) → ((a b : A) → Decides (E a b) (a ≡ b)) → (xs ys : List A)
    → Decides (pointwise E xs ys) (xs ≡ ys)
lists_decide E each xs ys = slice_eq-Decides each xs ys (pointwise E xs ys) refl

pub view_decides : (v w : View) → Decides (is_same_view v w) (v ≡ w)
view_decides v w =
    let keys = lists_decide (pointwise nat_eq) (lists_decide nat_eq unsigned_Decides) v.keys w.keys in
    let values = lists_decide (pointwise is_same_written) (lists_decide is_same_written written_decides) v.values w.values in
    let lengths = unsigned_Decides v.length w.length in
    let k = pointwise (pointwise nat_eq) v.keys w.keys in
    let x = pointwise (pointwise is_same_written) v.values w.values in
    joined (nat_eq v.length w.length && k) x (Decides-and (nat_eq v.length w.length) k lengths keys) values
    (λ h i. record { length = h.0.0 i; keys = h.0.1 i; values = h.1 i }) (λ e. ((λ i. (e i).length, λ i. (e i).keys), λ i. (e i).values))

all_same : (v : View) (views : List View) → Decides (list_all (λ w. is_same_view w v) views) (All (λ w. w ≡ v) views)
all_same v views = Decides-by_and (λ w. is_same_view w v) (λ w. w ≡ v) (list_all (λ w. is_same_view w v)) (λ w. view_decides w v) refl
    (λ w ws. refl) views

-- all are the same as this one
abbrev pub are_like : Shown → List Shown → Bool
are_like first shown = list_all (λ s. is_same_view (view_of s) (view_of first)) shown

-- if the first one has n operations, all show the same exactly when they are the same as it
pub alike_by_first : (n : ℕ) (shown : List Shown) (first : Shown) (r : Bool) → slice_get shown 0 ≡ Some first → first.length ≡ n
    → r ≡ are_like first shown → Decides r (ShowAlike n (map view_of shown))
alike_by_first n [] first r here l e = absurd (cc)
alike_by_first n (s ∷ ss) first r here l e = (to, from)
  where
    same : s ≡ first
    same = cc

    views : List View
    views = map view_of (s ∷ ss)

    tested : r ≡ list_all (λ w. is_same_view w (view_of first)) views
    tested = e ∙ sym (list_all-map (λ w. is_same_view w (view_of first)) view_of (s ∷ ss))

    to : r ≡ true → ShowAlike n (map view_of (s ∷ ss))
    to t = (view_of first, l, (all_same (view_of first) views).0 (sym tested ∙ t))

    from : ShowAlike n (map view_of (s ∷ ss)) → r ≡ true
    from h =
        let here : view_of s ≡ h.0 = h.2 0 (view_of s) (omega arith) in
        let first_is : view_of first ≡ h.0 = ap view_of (sym same) ∙ here in
        tested ∙ (all_same (view_of first) views).1 (λ k d lt. h.2 k d lt ∙ sym first_is)

-- if there is none, all show the same
pub none_differs : (n : ℕ) (shown : List Shown) → slice_get shown 0 ≡ None → ShowAlike n (map view_of shown)
none_differs n [] gone = (record { length = n; keys = []; values = [] }, refl, λ k d lt. absurd (omega (arith, lt)))
none_differs n (s ∷ ss) gone = absurd (cc)

-- an entry of a list of values, as views have it
abbrev pub written : OpId × Given → OpId × Scalar
written p = (p.0, scalar_of p.1)

-- if lengths and keys are the same, views are the same exactly when the values are
pub same_by_values : (E : OpId × Given → OpId × Given → Bool) → ((p q : OpId × Given) → E p q ≡ is_same_written (written p) (written q))
    → (s t : Shown) (r : Bool)
    → s.length ≡ t.length → pointwise (pointwise nat_eq) s.keys.items t.keys.items ≡ true
    → r ≡ pointwise (λ (a b : Vec (OpId × Given) Global). pointwise E a.items b.items) s.values.items t.values.items
    → r ≡ is_same_view (view_of s) (view_of t)
same_by_values E each s t r lengths keys values =
    let told : Vec (OpId × Given) Global → List (OpId × Scalar) = λ vs. map written vs.items in
    let all : Bool = pointwise (pointwise is_same_written) (map told s.values.items) (map told t.values.items) in
    let inner : (λ (a b : Vec (OpId × Given) Global). pointwise E a.items b.items)
    ≡ (λ (a b : Vec (OpId × Given) Global). pointwise is_same_written (told a) (told b)) =
    λ i a b. (ap (λ F. pointwise F a.items b.items) (λ j p q. each p q j)
    ∙ sym (pointwise-map written is_same_written a.items b.items)) i in
    let one : r ≡ all = values ∙ ap (λ F. pointwise F s.values.items t.values.items) inner
    ∙ sym (pointwise-map told (pointwise is_same_written) s.values.items t.values.items) in
    let long : nat_eq s.length t.length ≡ true = (unsigned_Decides s.length t.length).1 lengths in
    let both : (nat_eq s.length t.length && pointwise (pointwise nat_eq) s.keys.items t.keys.items)
    ≡ true = ap₂ (λ a b. a && b) long keys in
    one ∙ ap (λ b. b && all) (sym both)
