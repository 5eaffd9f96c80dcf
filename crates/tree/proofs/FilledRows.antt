-- Rows up to a bound: what is there, and whether there are more.
use Rattle.std.proofs.Common.{◌≡◌, ℕ, ◌<◌, ◌≤◌, ◌+◌, ◌-◌, zero, suc, Bool, true, false, List, [], ◌∷◌, ◌++◌, length, take}
use Rattle.std.proofs.Common.{Option, Some, sym, ap, ◌∙◌, subst, arith, append_assoc}
use Rattle.std.specs.List.{flat_map}
use Rattle.std.proofs.lemmas.Bool.{lt-ltb, le-ltb, ltb-true, ltb-false}
use Rattle.std.proofs.lemmas.List.{take_all, take-append-le, length-append}
use Rattle.semantics.specs.Elements.{Element}
use Rattle.semantics.specs.Paths.{Hop, FieldHop, ItemHop, child}
use Rattle.semantics.specs.Glances.{Shown, Row, hops_below, row_at, rows_of}
use Rattle.tree.specs.declared.node.Node.{Node}
use Rattle.tree.specs.Nodes.{next_number, number}
use Rattle.tree.specs.Glances.{IsFilled}

-- the rows of what these hops lead to, from an element at this depth
abbrev pub rows_below : Shown → (bound depth : ℕ) → Element → List Hop → List Row
rows_below S bound depth e hs = flat_map (λ h. rows_of S (bound - (depth + 1)) (depth + 1) (Some h) (child e h)) hs

-- an element has its own row at least
pub some_rows : (S : Shown) (d at : ℕ) (k : Option Hop) (e : Element) → 0 < length (rows_of S d at k e)
some_rows S zero at k e = omega arith
some_rows S (suc d) at k e = omega arith

-- the node one hop down
pub number_child : (ns : List Node) (e : Element) (h : Hop) (node : Option ℕ) → number ns e ≡ node
    → number ns (child e h) ≡ next_number ns node h
number_child ns e (FieldHop n) node is = ap (λ o. next_number ns o (FieldHop n)) is
number_child ns e (ItemHop a) node is = ap (λ o. next_number ns o (ItemHop a)) is

-- where there is no room left, there are more
pub full : (S : Shown) (d at n : ℕ) (k : Option Hop) (e : Element) (old : List Row) → length old ≡ n
    → IsFilled n old (rows_of S d at k e) old true
full S d at n k e old is = record {
  rows = sym (take-append-le n old (rows_of S d at k e) (omega (arith, is)) ∙ take_all n old (omega (arith, is)));
  is_cut = sym (lt-ltb n (length (old ++ rows_of S d at k e))
      (let some = some_rows S d at k e in omega (arith, is, length-append old (rows_of S d at k e))));
}

-- all are there
pub whole : (n : ℕ) (old all new : List Row) → new ≡ old ++ all → length new ≤ n → IsFilled n old all new false
whole n old all new is short =
    let few : length (old ++ all) ≤ n = subst (λ (xs : List Row). length xs ≤ n) is short in
    record { rows = is ∙ sym (take_all n (old ++ all) few); is_cut = sym (le-ltb n (length (old ++ all)) few) }

-- those of one part are all there where there are no more
pub went_on : (n : ℕ) (old part new : List Row) (more : Bool) → IsFilled n old part new more → more ≡ false → new ≡ old ++ part
went_on n old part new more f none =
    f.rows ∙ take_all n (old ++ part) (ltb-false n (length (old ++ part)) (sym f.is_cut ∙ none))

-- where one part is cut, so are all
pub cut_there : (n : ℕ) (old all cur part rest new : List Row) (more : Bool) → IsFilled n cur part new more → more ≡ true
    → cur ++ (part ++ rest) ≡ old ++ all → IsFilled n old all new true
cut_there n old all cur part rest new more f cut is =
    let over : n < length (cur ++ part) = ltb-true n (length (cur ++ part)) (sym f.is_cut ∙ cut) in
    let same : (cur ++ part) ++ rest ≡ old ++ all = append_assoc cur part rest ∙ is in
    record {
      rows = f.rows ∙ sym (take-append-le n (cur ++ part) rest (omega arith)) ∙ ap (take n) same;
      is_cut = sym (lt-ltb n (length (old ++ all)) (subst (λ (xs : List Row). n < length xs) same
          (omega (arith, length-append (cur ++ part) rest))));
    }

-- an element above the bound: its row, and then those beneath
pub first_row : (S : Shown) (bound depth : ℕ) (k : Option Hop) (e : Element) (old : List Row) → depth < bound
    → (old ++ row_at S depth k e false ∷ []) ++ rows_below S bound depth e (hops_below S e) ≡ old ++ rows_of S (bound - depth) depth k e
first_row S bound depth k e old lt =
    let less : bound - depth ≡ suc (bound - (depth + 1)) = omega arith in
    let one : depth + 1 ≡ suc depth = omega arith in
    let row = row_at S depth k e false in
    append_assoc old (row ∷ []) (rows_below S bound depth e (hops_below S e))
    ∙ ap (λ (rs : List Row). old ++ row ∷ rs)
    (ap (λ at. flat_map (λ h. rows_of S (bound - (depth + 1)) at (Some h) (child e h)) (hops_below S e)) one)
    ∙ ap (λ d. old ++ rows_of S d depth k e) (sym less)
