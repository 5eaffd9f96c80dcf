-- What is left decides, after the engines so far.
use Rattle.std.proofs.Common.{◌≡◌, ◌++◌, drop, Ok}
use Rattle.serde_json.specs.View.{items_view}
use Rattle.world.specs.wire.Forms.{and_then}
use Rattle.scripts.specs.Engines.{engines_of}
use Rattle.scripts.proofs.configuration.engines_in.Given as goal

abbrev pub invariant-loop-part : goal.invariant-loop-part
invariant-loop-part l =
    and_then (λ gs. Ok (l.engines.items ++ gs)) (engines_of (items_view (drop l.part-index l.parts))) ≡ engines_of (items_view l.parts)
