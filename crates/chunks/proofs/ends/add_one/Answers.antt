use Rattle.std.proofs.Common.{◌≡◌, ◌<◌, ◌+◌, ◌∙◌, ap, set, suc, map, take, drop, length, get_or, sym, arith, length-append}
use Rattle.std.proofs.lemmas.List.{get_or_default, length-drop, length-map, length-take-le}
use Rattle.std.proofs.lemmas.List.Edits.{map_over_more}
use Rattle.chunks.proofs.ends.add_one.Goals as goal

pub loop-chunk-preserved : goal.loop-chunk-preserved
loop-chunk-preserved c =
    let old = c.args.ends.now in
    let now = c.loop-chunk.ends in
    let i = c.loop-chunk.chunk in
    let inside : i < length old = c.loop-chunk-test.true in
    let long : length now ≡ length old =
    let parts = ap length c.loop-chunk.invariant in
    let both = length-append (map suc (take i old)) (drop i old) in
    let front = length-map (take i old) suc in
    let taken = length-take-le i old (omega (arith, inside)) in
    let rest = length-drop i old in
    omega (arith, inside, parts, both, front, taken, rest) in
    let next : get_or now i 0 + 1 ≡ suc (get_or now i 0) = omega arith in
    (λ t. set now i (next t))
    ∙ map_over_more suc old now i (get_or now i 0) inside c.loop-chunk.invariant
    (sym (get_or_default now i (get_or now i 0) 0 (omega (arith, inside, long))))
