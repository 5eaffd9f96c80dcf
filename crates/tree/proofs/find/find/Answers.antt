use Rattle.std.proofs.Common.{ap, Ok}
use Rattle.semantics.specs.Elements.{At, Doc}
use Rattle.semantics.specs.DocumentAnswer.{lists_of}
use Rattle.semantics.specs.Questions.{walk_from}
use Rattle.tree.specs.Nodes.{context}
use Rattle.tree.proofs.Walking.{spot_inside}
use Rattle.tree.proofs.find.find.Goals as goal

pub loop-step-init : goal.loop-step-init
loop-step-init c =
    let ns = c.args.nodes.now in
    (At Doc, c.root-spot.ensures ns, ap (λ xs. walk_from (lists_of (context ns)) xs (Ok (At Doc))) c.steps-step-items.ensures)

pub returns-clause-inside : goal.returns-clause-inside
returns-clause-inside c =
    let (p, is, rest) = c.loop-step.invariant in
    spot_inside c.args.nodes.now c.requires.tree c.loop-step.spot (p, is)
