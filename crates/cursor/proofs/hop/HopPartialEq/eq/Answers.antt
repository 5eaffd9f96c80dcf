use Rattle.std.proofs.Common.{◌∙◌}
use Rattle.std.specs.Cmp.Lexicographic.{texts_ties}
use Rattle.cursor.proofs.hop.HopPartialEq.eq.Goals as goal

pub returns-in-Field-Field : goal.returns-in-Field-Field
returns-in-Field-Field c =
    let found = c.in-Field-Field in
    rw (found.is-0, found.is-1) (c.eq.ensures ∙ texts_ties found.key found.other)
