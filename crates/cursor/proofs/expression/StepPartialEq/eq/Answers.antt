use Rattle.std.proofs.Common.{◌∙◌}
use Rattle.std.specs.Cmp.Lexicographic.{texts_ties}
use Rattle.cursor.proofs.expression.StepPartialEq.eq.Goals as goal

pub returns-in-Get-Get : goal.returns-in-Get-Get
returns-in-Get-Get c =
    let found = c.in-Get-Get in
    rw (found.is-0, found.is-1) (c.eq.ensures ∙ texts_ties found.key found.other)
