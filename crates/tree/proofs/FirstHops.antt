-- The first of the hops beneath an element, and those behind them.
use Rattle.std.proofs.Common.{◌≡◌, ℕ, ◌<◌, ◌-◌, zero, suc, false, List, [], ◌∷◌, ◌++◌, length, take, drop, map, Option}
use Rattle.std.proofs.Common.{refl, sym, ap, ◌∙◌, arith, append_assoc}
use Rattle.std.proofs.lemmas.Grind.{flat_map-append}
use Rattle.std.proofs.lemmas.List.{length-map, take-append-drop, take-map}
use Rattle.semantics.specs.Elements.{Element}
use Rattle.semantics.specs.Paths.{Hop, FieldHop, ItemHop}
use Rattle.semantics.specs.Glances.{Shown, Row, hops_below, row_at, rows_of}
use Rattle.tree.proofs.FilledRows.{first_row, rows_below}

-- the first of two lists
first_of_both : {X : Type 0} (n : ℕ) (xs ys : List X) → take n xs ++ take (n - length (take n xs)) ys ≡ take n (xs ++ ys)
first_of_both zero xs ys = refl
first_of_both (suc n) [] ys = let all : suc n - 0 ≡ suc n = omega arith in ap (λ k. take k ys) all
first_of_both (suc n) (x ∷ xs) ys =
    let less : suc n - length (x ∷ take n xs) ≡ n - length (take n xs) = omega arith in
    ap (λ k. x ∷ (take n xs ++ take k ys)) less ∙ ap (λ zs. x ∷ zs) (first_of_both n xs ys)

-- the first fields, and then as many items as are left
pub first_below : (S : Shown) (e : Element) (n left : ℕ) → left ≡ n - length (take n (S.names e))
    → map FieldHop (take n (S.names e)) ++ map ItemHop (take left (S.items e)) ≡ take n (hops_below S e)
first_below S e n left is =
    let fields : take n (map FieldHop (S.names e)) ≡ map FieldHop (take n (S.names e)) = take-map FieldHop n (S.names e) in
    let items : take left (map ItemHop (S.items e)) ≡ map ItemHop (take left (S.items e)) = take-map ItemHop left (S.items e) in
    let same : left ≡ n - length (take n (map FieldHop (S.names e)))
    = is ∙ ap (λ k. n - k) (sym (ap length fields ∙ length-map (take n (S.names e)) FieldHop)) in
    (λ i. sym fields i ++ sym items i)
    ∙ ap (λ k. take n (map FieldHop (S.names e)) ++ take k (map ItemHop (S.items e))) same
    ∙ first_of_both n (map FieldHop (S.names e)) (map ItemHop (S.items e))

-- the row of an element, those beneath its first hops, and the others
pub own_row : (S : Shown) (bound depth n : ℕ) (k : Option Hop) (e : Element) (old : List Row) → depth < bound
    → (old ++ row_at S depth k e false ∷ [])
    ++ (rows_below S bound depth e (take n (hops_below S e)) ++ rows_below S bound depth e (drop n (hops_below S e)))
    ≡ old ++ rows_of S (bound - depth) depth k e
own_row S bound depth n k e old lt =
    let row = row_at S depth k e false in
    let hs = hops_below S e in
    ap (λ (rs : List Row). (old ++ row ∷ []) ++ rs)
    (sym (flat_map-append _ (take n hs) (drop n hs)) ∙ ap (rows_below S bound depth e) (take-append-drop n hs))
    ∙ first_row S bound depth k e old lt

-- where the first are fewer, they are all
pub all_hops : (n : ℕ) (hs : List Hop) → length (take n hs) < n → drop n hs ≡ []
all_hops zero hs few = absurd (omega (arith, few))
all_hops (suc n) [] few = refl
all_hops (suc n) (h ∷ hs) few = all_hops n hs (omega (arith, few))

-- the rows of a hop stand behind those so far
pub hop_done : (cur part rest later new : List Row) → new ≡ cur ++ part → new ++ (rest ++ later) ≡ cur ++ ((part ++ rest) ++ later)
hop_done cur part rest later new is =
    ap (λ (rs : List Row). rs ++ (rest ++ later)) is ∙ append_assoc cur part (rest ++ later)
    ∙ ap (λ (rs : List Row). cur ++ rs) (sym (append_assoc part rest later))
