use Rattle.std.proofs.Common.{rules, ◌≡◌, ◌≤◌, ◌-◌, ◌∙◌, ◌++◌, ◌∷◌, [], length, take, drop, sym, ap, arith}
use Rattle.std.specs.List.{insert}
use Rattle.std.proofs.lemmas.List.{append-nil, take_all, drop_all, take_at, drop_at, length-drop}
use Rattle.rings.specs.Rings.{turned}
use Rattle.rings.proofs.Pushed.{pushed_round, pushed_behind}
use Rattle.rings.proofs.rings.push_into.Goals as goal

pub returns-then-position-count-clause-items : goal.returns-then-position-count-clause-items
returns-then-position-count-clause-items g c =
    let A = c.split_at_mut-back.result.1.now in
    let B = c.split_at_mut-back.result.0.now in
    let F = c.push_front-carried.new.items in
    let S = c.push_front.new.items in
    let s = c.args.start in
    let o = c.args.position in
    let few : length (drop o A) ≤ length A - o = let a = length-drop o A in omega (arith, a) in
    let whole = take_all (length A - o) (drop o A) few in
    let none = drop_all (length A - o) (drop o A) few in
    let same : length B ≡ s = search rules in
    let long : length S ≡ s = search rules in
    (λ t. turned s (S ++ (take o A ++ (F ++ none t))) ++ c.push_front.result ∷ [])
    ∙ (λ t. turned s (S ++ (take o A ++ append-nil F t)) ++ c.push_front.result ∷ [])
    ∙ (λ t. (drop_at S (take o A ++ F) s long t ++ take_at S (take o A ++ F) s long t) ++ c.push_front.result ∷ [])
    ∙ pushed_round A B F S o c.args.value c.push_front-carried.result c.push_front.result
    (let h = c.if-position-count.true in omega (arith, h))
    (c.push_front-carried.ensures ∙ ap (λ ys. c.args.value ∷ ys) whole) c.push_front.ensures
    ∙ (λ t. insert (sym (drop_at B A s same) t ++ sym (take_at B A s same) t) o c.args.value)
    ∙ ap (λ ys. insert (turned s ys) o c.args.value) (sym c.split_at_mut-back.ensures.value)

pub returns-clause-items : goal.returns-clause-items
returns-clause-items g c =
    let A = c.split_at_mut-back.result.1.now in
    let B = c.split_at_mut-back.result.0.now in
    let S = c.push_front-2.new.items in
    let s = c.args.start in
    let o = c.args.position in
    let x = c.push_front-2.result in
    let few : length (drop (o - length A) B) ≤ length B - (o - length A) = let a = length-drop (o - length A) B in omega (arith, a) in
    let whole = take_all (length B - (o - length A)) (drop (o - length A) B) few in
    let none = drop_all (length B - (o - length A)) (drop (o - length A) B) few in
    let same : length B ≡ s = search rules in
    let long : length (take (o - length A) B ++ S) ≡ s = search rules in
    (λ t. turned s ((take (o - length A) B ++ (S ++ none t)) ++ A) ++ x ∷ [])
    ∙ (λ t. turned s ((take (o - length A) B ++ append-nil S t) ++ A) ++ x ∷ [])
    ∙ (λ t. (drop_at (take (o - length A) B ++ S) A s long t ++ take_at (take (o - length A) B ++ S) A s long t) ++ x ∷ [])
    ∙ pushed_behind A B S o c.args.value x c.if-position-count.false (c.push_front-2.ensures ∙ ap (λ ys. c.args.value ∷ ys) whole)
    ∙ (λ t. insert (sym (drop_at B A s same) t ++ sym (take_at B A s same) t) o c.args.value)
    ∙ ap (λ ys. insert (turned s ys) o c.args.value) (sym c.split_at_mut-back.ensures.value)
