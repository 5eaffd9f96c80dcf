use Rattle.std.proofs.Common.{rules, ◌≡◌, ◌+◌, ◌-◌, ◌∙◌, ◌++◌, length, set, take, drop, ap}
use Rattle.std.proofs.lemmas.List.{take_at, drop_at}
use Rattle.rings.specs.Rings.{turned}
use Rattle.rings.proofs.Sunk.{sunk_before, sunk_round}
use Rattle.rings.proofs.rings.sink.Goals as goal

pub returns-then-position-count-clause-items : goal.returns-then-position-count-clause-items
returns-then-position-count-clause-items g c value rest old =
    let A = c.split_at_mut-back.result.1.now in
    let B = c.split_at_mut-back.result.0.now in
    let s = c.args.start in
    let o = c.args.position in
    let moved = turned 1 (take (o + 1) A) ++ drop (o + 1) A in
    let same : length B ≡ s = c.split_at_mut-back.ensures.front_len in
    let parts : A ++ B ≡ turned s c.args.ring.now = λ t. c.split_at_mut-back.ensures.back t ++ c.split_at_mut-back.ensures.front t in
    (λ t. turned s (B ++ (c.rotate_left.ensures.after t ++ drop (o + 1) A)))
    ∙ (λ t. drop_at B moved s same t ++ take_at B moved s same t)
    ∙ sunk_before A B rest o value c.if-position-count.true (parts ∙ old)

pub returns-clause-items : goal.returns-clause-items
returns-clause-items g c value rest old =
    let A = c.split_at_mut-back.result.1.now in
    let B = c.split_at_mut-back.result.0.now in
    let s = c.args.start in
    let o = c.args.position in
    let j = o - length A in
    let F = c.rotate_left-2.new.self in
    let S = c.rotate_left-3.new.self ++ drop (j + 1) B in
    let front = set F (length A - 1) c.swap.new.x in
    let back = set S j c.swap.new.y in
    let same : length back ≡ s = search rules in
    let parts : A ++ B ≡ turned s c.args.ring.now = λ t. c.split_at_mut-back.ensures.back t ++ c.split_at_mut-back.ensures.front t in
    (λ t. drop_at back front s same t ++ take_at back front s same t)
    ∙ sunk_round A B F S rest o value c.swap.new.x c.swap.new.y (search rules) (search rules) (search rules) c.rotate_left-2.ensures.after
    (ap (λ ys. ys ++ drop (j + 1) B) c.rotate_left-3.ensures.after) (search rules) (search rules) (parts ∙ old)
