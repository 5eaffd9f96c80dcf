use Rattle.std.proofs.Common.{◌∙◌, ap, sym}
use Rattle.semantics.specs.Glances.{kinds_of}
use Rattle.tree.specs.Nodes.{node_in, presence_of}
use Rattle.tree.proofs.StandingKinds.{kinds_stand}
use Rattle.tree.proofs.glance.kinds_at.Goals as goal

pub returns-in-Some : goal.returns-in-Some
returns-in-Some c = λ e at.
    kinds_stand c.kinds.result c.node_at.result.now.presence.entries c.kinds.ensures
    ∙ ap (λ o. kinds_of (presence_of o)) (sym c.node_at.ensures)
    ∙ ap (λ o. kinds_of (presence_of (node_in c.args.nodes.now o))) (sym (at ∙ c.in-Some.is))
