use Rattle.std.proofs.Common.{◌<◌, ◌≤◌, ◌-◌, length}
use Rattle.requests.specs.Glances.{HasNoFloat}
use Rattle.requests.proofs.glances.+element_json.Given as goal

abbrev pub decreases-element_json : goal.decreases-element_json
decreases-element_json l = length l.glance.now.rows.items - l.at

abbrev pub decreases-rows : goal.decreases-rows
decreases-rows l = length l.glance.rows.items - l.next

abbrev pub invariant-rows : goal.invariant-rows
invariant-rows l = (l.at < l.next) × (l.next ≤ length l.glance.rows.items) × HasNoFloat l.beneath
