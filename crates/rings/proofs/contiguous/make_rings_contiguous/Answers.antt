use Rattle.std.proofs.Common.{rules, ◌≤◌, length, arith}
use Rattle.rings.proofs.Turned.{zero_from_all}
use Rattle.rings.proofs.contiguous.make_rings_contiguous.Goals as goal

pub returns-clause-straight : goal.returns-clause-straight
returns-clause-straight g c =
    let done : length c.loop-ring.starts ≤ c.loop-ring.ring = search rules in
    zero_from_all c.loop-ring.starts (λ k d lt. c.loop-ring.invariant.1 k d (omega (arith, lt, done)))
