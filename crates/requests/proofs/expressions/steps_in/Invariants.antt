-- What is left decides, after the steps so far.
use Rattle.std.proofs.Common.{◌≡◌, ◌++◌, drop, map, Ok}
use Rattle.document.specs.cursor.Steps.{step_of}
use Rattle.serde_json.specs.View.{items_view}
use Rattle.wire.specs.Forms.{and_then}
use Rattle.requests.specs.Expressions.{path_steps_of}
use Rattle.requests.proofs.expressions.steps_in.Given as goal

abbrev pub invariant-loop-part : goal.invariant-loop-part
invariant-loop-part l =
    and_then (λ ss. Ok (map step_of l.steps.items ++ ss)) (path_steps_of l.edition (items_view (drop l.part-index l.parts)))
    ≡ path_steps_of l.edition (items_view l.parts)
