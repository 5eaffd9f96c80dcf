use Rattle.std.proofs.Common.{rules, ◌≡◌, ◌<◌, length, get_or, sym, ap, ◌∙◌}
use Rattle.std.proofs.lemmas.Bool.{eqb-true}
use Rattle.ids.specs.Ids.{OpId}
use Rattle.ids.proofs.SearchedVectors.{named_there}
use Rattle.ids.proofs.named_vector.counter_near.Goals as goal
use Rattle.ids.proofs.named_vector.counter_near.Goals.{In-Some}

-- what stands at the position
there : (c : In-Some) → get_or c.args.ids.now c.args.position c.in-Some.id.now ≡ c.in-Some.id.now
there c = sym c.in-Some.ensures.lookup.1

inside : (c : In-Some) → c.args.position < length c.args.ids.now
inside c = search rules

pub returns-in-Some : goal.returns-in-Some
returns-in-Some c =
    let same = eqb-true c.in-Some.id.now.replica c.args.replica (sym c.if-eq.ensures) in
    let s : In-Some = (goal.at.returns-in-Some c).In-Some in
    sym (named_there c.args.ids.now c.requires c.args.position c.in-Some.id.now c.args.replica (inside s)
    (ap (λ (a : OpId). a.replica) (there s) ∙ same) ∙ ap (λ (a : OpId). a.counter) (there s))
