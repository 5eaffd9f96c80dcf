use Rattle.std.proofs.Common.{◌≡◌, ◌+◌, ◌-◌, ◌*◌, ◌∙◌, ◌++◌, get_or, set, take, drop, sym, ap, arith}
use Rattle.rings.specs.Rings.{straight, turned}
use Rattle.rings.proofs.Straight.{in_ring}
use Rattle.rings.proofs.Slots.{at_ring}
use Rattle.rings.proofs.Turned.{straight_turned}
use Rattle.rings.proofs.contiguous.make_ring_contiguous.Goals as goal

pub returns-clause-same : goal.returns-clause-same
returns-clause-same g c =
    let starts = c.args.starts.now in
    let slots = c.args.slots.now in
    let k = c.args.ring in
    let p : _ = k * 2048 in
    let n : k * 2048 + 2048 - k * 2048 ≡ 2048 = omega arith in
    let here : in_ring 2048 k 0 ≡ k * 2048 = at_ring k 0 ∙ omega arith in
    let turned_now : c.rotate_left.new.self ≡ turned (get_or starts k 0) (take 2048 (drop (k * 2048) slots)) = c.rotate_left.ensures.after
    ∙ ap (λ m. turned (get_or starts k 0) (take m (drop (k * 2048) slots))) n in
    (λ t. straight 2048 (set starts k 0) (take (k * 2048) slots ++ (turned_now t ++ drop (n t) (drop (k * 2048) slots))))
    ∙ ap
    (λ i. straight 2048 (set starts k 0)
    (take i slots ++ (turned (get_or starts k 0) (take 2048 (drop i slots)) ++ drop 2048 (drop i slots))))
    (sym here)
    ∙ straight_turned 2048 starts slots k c.requires.ring c.requires.full
