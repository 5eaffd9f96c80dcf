use Rattle.std.proofs.Common.{◌≡◌, ℕ, ◌+◌, Bool, false, cond, List, get_or, ◌∙◌, ap, refl, arith}
use Rattle.std.specs.Simd.Lanes.{mask_l}
use Rattle.std.proofs.lemmas.List.{take_all}
use Rattle.lanes.specs.Kernels.{over}
use Rattle.lanes.proofs.Bits.{length-over, word_next, bit_over}
use Rattle.measures.proofs.kernels.plain.word_over.Goals as goal

at_first : (i : ℕ) (bits : List Bool) → cond {A = ℕ} (get_or bits (0 + i) false) 1 0 ≡ cond (get_or bits i false) 1 0
at_first i bits = ap (λ m. cond {A = ℕ} (get_or bits m false) 1 0) (omega arith)

pub loop-index-preserved : goal.loop-index-preserved
loop-index-preserved c =
    let counters = c.args.counters.now in
    let bounds = c.args.bounds.now in
    let l = c.loop-index in
    let long = length-over counters bounds c.requires.columns in
    let bit = bit_over 0 l.index counters bounds counters bounds _ c.requires.columns (omega arith) refl refl c.from.ensures in
    word_next l.index (over counters bounds) l.word _ (omega arith) (omega arith)
    (bit ∙ at_first l.index (over counters bounds)) l.invariant

pub returns : goal.returns
returns c =
    let bits = over c.args.counters.now c.args.bounds.now in
    let long = length-over c.args.counters.now c.args.bounds.now c.requires.columns in
    c.loop-index.invariant ∙ ap mask_l (take_all _ bits (omega arith))
