use Rattle.std.proofs.Common.{◌≤◌, List, length, ap, refl, subst, arith}
use Rattle.std.proofs.lemmas.Bool.{leb-true}
use Rattle.semantics.specs.Entries.{Entry as TheEntry}
use Rattle.semantics.specs.WorldHistory.{BeginsWith}
use Rattle.published.specs.Tokens.{TokenState}
use Rattle.published.proofs.Prefixes.{grown}
use Rattle.published.proofs.token.ReaderToken.begins.Goals as goal

pub returns-clause-begins : goal.returns-clause-begins
returns-clause-begins g c yes' =
    let less : length c.self.inside.seen.log ≤ length c.point-point.result.now.log = omega
    (arith, leb-true c.len.result c.len-2.result yes', c.len.ensures, c.len-2.ensures) in
    subst (λ (G : List TheEntry). BeginsWith G c.args.self.now.seen) c.point-point.ensures.log
    (grown c.self.inside.seen.log c.point-point.result.now.log c.point-point.result.now.log c.args.self.now.seen
    (c.compare.ensures.shorter less) refl (ap (λ (s : TokenState). s.seen) c.self.view_is))
