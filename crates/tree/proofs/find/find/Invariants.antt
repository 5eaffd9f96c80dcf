use Rattle.std.proofs.Common.{◌≡◌, map, drop, Ok}
use Rattle.semantics.specs.Elements.{Place}
use Rattle.semantics.specs.DocumentAnswer.{lists_of}
use Rattle.semantics.specs.Questions.{resolve, walk_from}
use Rattle.operation.specs.cursor.Steps.{step_of}
use Rattle.tree.specs.Nodes.{context}
use Rattle.tree.specs.Spots.{IsSpot}
use Rattle.tree.proofs.find.find.Given as goal

abbrev pub invariant-loop-step : goal.invariant-loop-step
invariant-loop-step l = (p : Place) × IsSpot l.nodes l.spot p
    × (walk_from (lists_of (context l.nodes)) (map step_of (drop l.step-index l.step-items)) (Ok p)
    ≡ resolve (lists_of (context l.nodes)) l.expression)
