use Rattle.std.proofs.Common.{◌≡◌, ℕ, ◌+◌, Bool, false, cond, List, get_or, refl, ◌∙◌, ap, arith}
use Rattle.std.proofs.lemmas.List.{take_all}
use Rattle.lanes.specs.Kernels.{over, count_true}
use Rattle.lanes.proofs.Bits.{length-over, bit_over, count_next, count_true-take-le}
use Rattle.measures.proofs.kernels.plain.count_over.Goals as goal

at_first : (i : ℕ) (bits : List Bool) → cond {A = ℕ} (get_or bits (0 + i) false) 1 0 ≡ cond (get_or bits i false) 1 0
at_first i bits = ap (λ m. cond {A = ℕ} (get_or bits m false) 1 0) (omega arith)

pub overflow_add-count : goal.overflow_add-count
overflow_add-count c =
    let counters = c.args.counters.now in
    let bounds = c.args.bounds.now in
    let l = c.loop-index in
    let long = length-over counters bounds c.requires in
    let bit = bit_over 0 l.index counters bounds counters bounds _ c.requires (omega arith) refl refl c.from-count.ensures in
    let counted = count_next l.index (over counters bounds) l.count _ (omega arith)
    (bit ∙ at_first l.index (over counters bounds)) l.invariant in
    omega (arith, counted, count_true-take-le (l.index + 1) (over counters bounds))

pub loop-index-preserved : goal.loop-index-preserved
loop-index-preserved c =
    let counters = c.args.counters.now in
    let bounds = c.args.bounds.now in
    let l = c.loop-index in
    let long = length-over counters bounds c.requires in
    let bit = bit_over 0 l.index counters bounds counters bounds _ c.requires (omega arith) refl refl c.from-count.ensures in
    count_next l.index (over counters bounds) l.count _ (omega arith) (bit ∙ at_first l.index (over counters bounds)) l.invariant

pub returns : goal.returns
returns c =
    let bits = over c.args.counters.now c.args.bounds.now in
    let long = length-over c.args.counters.now c.args.bounds.now c.requires in
    c.loop-index.invariant ∙ ap count_true (take_all _ bits (omega arith))
