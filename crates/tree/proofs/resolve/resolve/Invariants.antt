use Rattle.std.proofs.Common.{◌≡◌, map, drop, Ok}
use Rattle.semantics.specs.DocumentAnswer.{lists_of}
use Rattle.semantics.specs.Questions.{resolve, walk_from}
use Rattle.operation.specs.cursor.Places.{place_at}
use Rattle.operation.specs.cursor.Steps.{hop_of, step_of}
use Rattle.tree.specs.Nodes.{context}
use Rattle.tree.specs.Spots.{IsSpot}
use Rattle.tree.proofs.resolve.resolve.Given as goal

abbrev pub invariant-loop-step : goal.invariant-loop-step
invariant-loop-step l = record {
  spot : IsSpot l.nodes l.spot (place_at (map hop_of l.hops.items) l.spot.is_head);
  rest : walk_from (lists_of (context l.nodes)) (map step_of (drop l.step-index l.steps))
      (Ok (place_at (map hop_of l.hops.items) l.spot.is_head))
      ≡ resolve (lists_of (context l.nodes)) l.expression;
}
