use Rattle.std.proofs.Common.{◌≡◌, ◌<◌, [], replicate}
use Rattle.oplog.specs.Logs.{least_room, numbers_of}
use Rattle.oplog.proofs.log.no_positions.Given as goal

abbrev pub invariant-loop : goal.invariant-loop
invariant-loop l = record {
  numbers : numbers_of l.positions.items ≡ replicate l.counter [];
  room : 0 < least_room 1 l.positions.items;
}
