use Rattle.std.proofs.Common.{◌||◌, subst}
use Rattle.semantics.specs.Elements.{is_same}
use Rattle.semantics.specs.Paths.{child}
use Rattle.operation.specs.cursor.Steps.{hop_of}
use Rattle.tree.specs.Shown.{ShownBut}
use Rattle.tree.proofs.show.show_hop.Goals as goal

pub returns-in-Field-clause-shown : goal.returns-in-Field-clause-shown
returns-in-Field-clause-shown c = λ e off at s. c.show_field.ensures.shown e off at
    (subst (λ h. ShownBut c.args.nodes.now (λ x. is_same x (child e (hop_of h)) || off x)) c.in-Field.is s)

pub returns-in-Item-clause-shown : goal.returns-in-Item-clause-shown
returns-in-Item-clause-shown c = λ e off at s. c.show_entry.ensures.shown e off at
    (subst (λ h. ShownBut c.args.nodes.now (λ x. is_same x (child e (hop_of h)) || off x)) c.in-Item.is s)
