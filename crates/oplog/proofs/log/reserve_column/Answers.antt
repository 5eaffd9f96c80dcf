use Rattle.std.proofs.Common.{◌<◌, List, set, sym, subst}
use Rattle.semantics.specs.Ids.{OpId}
use Rattle.columns.specs.Numbered.{Numbered}
use Rattle.oplog.specs.Logs.{least_room}
use Rattle.oplog.proofs.Room.{least_room-behind}
use Rattle.oplog.proofs.log.reserve_column.Goals as goal

pub returns-in_ok-push-clause-roomy : goal.returns-in_ok-push-clause-roomy
returns-in_ok-push-clause-roomy c = λ last roomy m some.
    subst (λ (ns : List (Numbered OpId)). 0 < least_room 1 (set ns last m)) (sym c.in_ok-push.ensures.items)
    (least_room-behind 1 c.args.positions.now.items last m c.in_ok-column_with_room.field-0 (roomy m some) some
    c.in_ok-column_with_room.ensures.1)
