-- What is left decides, after the numbers so far.
use Rattle.std.proofs.Common.{◌≡◌, ◌++◌, drop, Ok}
use Rattle.serde_json.specs.View.{items_view}
use Rattle.world.specs.wire.Forms.{and_then}
use Rattle.scripts.specs.Engines.{numbers_of}
use Rattle.scripts.proofs.configuration.numbers_in.Given as goal

abbrev pub invariant-loop-part : goal.invariant-loop-part
invariant-loop-part l =
    and_then (λ ns. Ok (l.numbers.items ++ ns)) (numbers_of (items_view (drop l.part-index l.parts))) ≡ numbers_of (items_view l.parts)
