use Rattle.std.proofs.Common.{◌≡◌, false}
use Rattle.serde_json.specs.View.{items_view}
use Rattle.serde_json.specs.Written.{items_have_float}
use Rattle.requests.proofs.glances.values_of.Given as goal

abbrev pub invariant-loop-id : goal.invariant-loop-id
invariant-loop-id l = items_have_float (items_view l.values.items) ≡ false
