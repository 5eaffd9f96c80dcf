use Rattle.std.proofs.Common.{◌≤◌, length, ap, arith}
use Rattle.published.specs.Beginnings.{Beginning}
use Rattle.published.specs.Tokens.{TokenState}
use Rattle.published.proofs.Prefixes.{grown}
use Rattle.published.proofs.Shows.{reads}
use Rattle.published.proofs.token.ReaderToken.enter.Goals as goal

pub enter_as-requires : goal.enter_as-requires
enter_as-requires g c = reads _ _ _ _ _

pub returns-clause-grows : goal.returns-clause-grows
returns-clause-grows g c =
    let less : length c.self.inside.seen.log ≤ length c.copy.inside.point.log = omega
    (arith, c.if-len-before.false, c.len.ensures, c.len-before.ensures) in
    grown c.self.inside.seen.log c.copy.inside.point.log c.again.result.log c.args.self.now.seen (c.compare.ensures.shorter less)
    (ap (λ (p : Beginning). p.log) c.again.ensures) (ap (λ (s : TokenState). s.seen) c.self.view_is)
