use Rattle.std.proofs.Common.{◌&&◌, ◌||◌, get_or, subst}
use Rattle.semantics.specs.Elements.{Item, is_same}
use Rattle.tree.specs.Nodes.{links}
use Rattle.tree.specs.Shown.{ShownBut}
use Rattle.tree.proofs.clear.show_cleared.Goals as goal

pub returns-then-was_present-clause-shown : goal.returns-then-was_present-clause-shown
returns-then-was_present-clause-shown c = λ e off d at s.
    let ns = c.args.nodes.now in
    c.show_child.ensures.shown e off d at
    (subst (λ b. ShownBut ns (λ x. (b && is_same x (Item e (get_or (links ns c.args.at).1 c.args.position d).0)) || off x))
    c.if-was_present.true s)
