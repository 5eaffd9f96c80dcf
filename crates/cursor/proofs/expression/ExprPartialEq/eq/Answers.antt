use Rattle.std.proofs.Common.{sym, ◌∙◌}
use Rattle.std.specs.Cmp.Lexicographic.{pointwise}
use Rattle.std.specs.Cmp.Derive.Mapped.{pointwise-map}
use Rattle.cursor.specs.SamePlaces.{is_same_step}
use Rattle.cursor.specs.Steps.{step_of}
use Rattle.cursor.proofs.expression.ExprPartialEq.eq.Goals as goal

pub returns : goal.returns
returns c =
    c.eq.ensures ∙ sym (pointwise-map step_of is_same_step c.self.inside.steps.items c.other.inside.steps.items)
    ∙ (λ i. pointwise is_same_step (c.self.view_is i) (c.other.view_is i))
