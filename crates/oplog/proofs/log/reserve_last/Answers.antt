use Rattle.std.proofs.Common.{◌<◌, List, sym, subst}
use Rattle.semantics.specs.Ids.{OpId}
use Rattle.columns.specs.Numbered.{Numbered}
use Rattle.oplog.specs.Logs.{least_room}
use Rattle.oplog.proofs.Room.{least_room-grown, numbers-kept, set_again}
use Rattle.oplog.proofs.log.reserve_last.Goals as goal

pub returns-clause-same : goal.returns-clause-same
returns-clause-same c =
    numbers-kept c.args.positions.now.items c.args.last c.reserve_one.new.self c.index_mut-numbers.result.now
    c.index_mut-numbers.ensures.value c.reserve_one.ensures.same

pub returns-clause-roomy : goal.returns-clause-roomy
returns-clause-roomy c = λ m some.
    subst (λ (ns : List (Numbered OpId)). 0 < least_room 1 ns)
    (sym (set_again c.args.positions.now.items c.args.last c.reserve_one.new.self m))
    (c.requires.roomy m some)

pub returns-clause-kept : goal.returns-clause-kept
returns-clause-kept c = λ n.
    least_room-grown n c.args.positions.now.items c.args.last c.reserve_one.new.self c.index_mut-numbers.result.now
    c.index_mut-numbers.ensures.value c.reserve_one.ensures.kept
