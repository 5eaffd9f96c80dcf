use Rattle.std.proofs.Common.{◌≡◌, ℕ, ◌≤◌, Bool, true, eqb, List, length, drop, sym, ◌∙◌, arith}
use Rattle.std.specs.Cmp.Lexicographic.{pointwise}
use Rattle.std.proofs.lemmas.List.{drop_all}
use Rattle.lanes.proofs.Chunks.{equal_from_pointwise}
use Rattle.measures.proofs.kernels.plain.all_eq.Goals as goal

nothing_left : (i : ℕ) (xs ys : List ℕ) (w : Bool) → length xs ≤ i → length ys ≤ i → pointwise eqb (drop i xs) (drop i ys) ≡ w → true ≡ w
nothing_left i xs ys w p q left = (λ j. pointwise eqb (sym (drop_all i xs p) j) (sym (drop_all i ys q) j)) ∙ left

pub returns : goal.returns
returns c =
    let l = c.loop-index in
    equal_from_pointwise true c.args.a.now c.args.b.now
    (nothing_left l.index c.args.a.now c.args.b.now _ (omega arith) (omega arith) l.invariant)
