use Rattle.std.proofs.Common.{◌≤◌, length, ap, arith}
use Rattle.published.specs.Beginnings.{Beginning}
use Rattle.published.specs.Tokens.{TokenState}
use Rattle.published.proofs.Prefixes.{grown}
use Rattle.published.proofs.token.ReaderToken.learn.Goals as goal

pub returns-then-len-clause-grows : goal.returns-then-len-clause-grows
returns-then-len-clause-grows g c =
    let less : length c.self.inside.seen.log ≤ length c.point-point.result.now.log = omega
    (arith, c.if-len.true, c.len.ensures, c.len-2.ensures) in
    grown c.self.inside.seen.log c.point-point.result.now.log c.again.result.log c.args.self.now.seen (c.compare.ensures.shorter less)
    (ap (λ (p : Beginning). p.log) c.again.ensures) (ap (λ (s : TokenState). s.seen) c.self.view_is)
