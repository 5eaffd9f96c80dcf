use Rattle.std.proofs.Common.{◌≡◌, ◌∙◌, ◌<◌, ◌+◌, ap, sym, refl, slice_get, Some, subst, length, arith}
use Rattle.std.proofs.lemmas.Option.{slice_get_read, slice_get_within}
use Rattle.semantics.specs.Context.{has_position}
use Rattle.columns.specs.Blocks.{IsBehind, IsFound, joined}
use Rattle.columns.proofs.Runs.{items_here}
use Rattle.columns.proofs.Walked.{behind_head, behind_item, homeless, none_left, run_at}
use Rattle.columns.proofs.walks.behind.Goals as goal

pub returns-in_default : goal.returns-in_default
returns-in_default c = subst (λ o. IsBehind c.args.blocks.now o 0 0) (sym (none_left c.args.item c.in_default.not-Some))
    (behind_head c.args.blocks.now)

pub returns-in_err-home : goal.returns-in_err-home
returns-in_err-home c =
    let absent = homeless c.args.blocks.now c.args.homes.now.entries c.in-Some.id c.requires.homes
    (sym c.get.ensures ∙ c.in_err-home.was) in
    rw c.from_residual.ensures (ap (λ o. has_position o (joined c.args.blocks.now)) c.in-Some.is ∙ absent)

pub prove-unreachable-requires : goal.prove-unreachable-requires
prove-unreachable-requires c =
    let runs = c.args.blocks.now in
    let at = c.in_ok-at.at in
    let stands = subst (IsFound runs c.in-Some.id) c.in_ok-at.was c.find.ensures in
    let r = c.index-blocks-at.result in
    let is : slice_get runs at.block ≡ Some r = slice_get_read runs _ at.block r refl stands.inside c.index-blocks-at.is in
    let inside : at.index < length r.items = subst (λ xs. at.index < length xs) (items_here runs at.block r is)
    (slice_get_within _ at.index c.in-Some.id stands.there) in
    let long = c.len.ensures.items in
    let past = c.if-prove.true in
    omega (arith, inside, long, past)

pub returns : goal.returns
returns c =
    let runs = c.args.blocks.now in
    let at = c.in_ok-at.at in
    let stands = subst (IsFound runs c.in-Some.id) c.in_ok-at.was c.find.ensures in
    let there = run_at runs c.in-Some.id at.block at.index stands in
    subst (λ o. IsBehind runs o at.block (at.index + 1)) (sym c.in-Some.is)
    (behind_item runs c.in-Some.id at.block at.index there.run there.is stands)
