use Rattle.std.proofs.Common.{◌≡◌, ◌≤◌, ◌+◌, ◌++◌, map, length, drop, vec_len, vec_capacity}
use Rattle.oplog.proofs.log.push_numbers.Given as goal

abbrev pub invariant-loop-position : goal.invariant-loop-position
invariant-loop-position l = record {
  pushed : l.numbers.items ++ map (λ e. e.1) (drop l.position l.from.entries)
      ≡ l.fn.numbers.items ++ map (λ e. e.1) (drop l.first l.from.entries);
  room : vec_len l.numbers + length l.from.entries ≤ vec_capacity l.numbers + l.position;
}
