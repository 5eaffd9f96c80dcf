use Rattle.std.proofs.Common.{ℕ, get_or, set, ap, sym, ◌∙◌, arith}
use Rattle.std.proofs.lemmas.List.Edits.{fill_by_more}
use Rattle.std.proofs.lemmas.List.FromFn.{fill_by_all}
use Rattle.std.specs.Int.{div_ceil}
use Rattle.lanes.specs.Kernels.{over, word_at}
use Rattle.lanes.proofs.Bits.{length-over, word_of_range}
use Rattle.measures.proofs.kernels.plain.mask_over.Goals as goal

pub loop-index-preserved : goal.loop-index-preserved
loop-index-preserved c w h =
    let l = c.loop-index in
    let word = word_at (over c.args.counters.now c.args.bounds.now) in
    let written = c.word_over.ensures
    ∙ word_of_range l.index _ c.args.counters.now c.args.bounds.now c.requires.columns c.min-end.ensures in
    ap (λ (n : ℕ). get_or (set l.out l.index n) w 0) written ∙ fill_by_more word l.out l.index 0 (omega arith) l.invariant w h

pub returns : goal.returns
returns c =
    let bits = over c.args.counters.now c.args.bounds.now in
    let long = length-over c.args.counters.now c.args.bounds.now c.requires.columns in
    fill_by_all (word_at bits) c.loop-index.out _ 0 (c.loop-index.auto.out ∙ c.requires.words ∙ ap (λ n. div_ceil n 64) (sym long))
    (λ w h. c.loop-index.invariant w (omega arith))
