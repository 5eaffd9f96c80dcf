use Rattle.std.proofs.Common.{◌≡◌, subst, arith}
use Rattle.semantics.specs.LegalHistory.{IsAmong}
use Rattle.inbox.specs.declared.awaited.Awaited.{Awaited}
use Rattle.inbox.proofs.AwaitOrder.{all_from, apart, counter_rises, first_left, in_order, left_above, none_before, rises}
use Rattle.inbox.proofs.awaited.first_met.Goals as goal

pub returns-in_err-awaited-clause-none : goal.returns-in_err-awaited-clause-none
returns-in_err-awaited-clause-none c = rw c.from_residual.ensures
    (λ q held here.
    let among = all_from c.args.awaits.now c.range.result c.args.id.now.replica (c.range.ensures.between tt) q held (omega (arith, here)) in
    absurd (subst (IsAmong q) c.in_err-awaited.ensures.steps.0 among))

pub returns-then-ne-clause-none : goal.returns-then-ne-clause-none
returns-then-ne-clause-none c q held here =
    let awaits = c.args.awaits.now in
    let p = c.args.id.now.replica in
    let between = c.range.ensures.between tt in
    let steps = c.in_ok-awaited.ensures.steps in
    let next : Awaited = c.in_ok-awaited.awaited.now in
    let among = all_from awaits c.range.result p between q held (omega (arith, here)) in
    let rising = in_order awaits c.range.result p between c.range.ensures.ordered in
    let behind = rises next q (left_above c.range.result c.next.new.self next steps rising q among) in
    let from = none_before awaits c.range.result p between next (first_left c.range.result c.next.new.self next steps) in
    let same : next.replica ≡ p = omega (arith, behind, from, here) in
    absurd (apart next.replica p c.if-ne.ensures same)

pub returns-then-awaited-id-clause-none : goal.returns-then-awaited-id-clause-none
returns-then-awaited-id-clause-none c q held here =
    let awaits = c.args.awaits.now in
    let p = c.args.id.now.replica in
    let between = c.range.ensures.between tt in
    let steps = c.in_ok-awaited.ensures.steps in
    let next : Awaited = c.in_ok-awaited.awaited.now in
    let among = all_from awaits c.range.result p between q held (omega (arith, here)) in
    let rising = in_order awaits c.range.result p between c.range.ensures.ordered in
    let order = left_above c.range.result c.next.new.self next steps rising q among in
    let behind = rises next q order in
    let from = none_before awaits c.range.result p between next (first_left c.range.result c.next.new.self next steps) in
    let same : next.replica ≡ q.replica = omega (arith, behind, from, here) in
    let above = counter_rises next q order same in
    omega (arith, above, c.if-awaited-id.true)
