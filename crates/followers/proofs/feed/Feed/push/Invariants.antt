use Rattle.std.proofs.Common.{◌≡◌, ◌+◌, ◌++◌, map}
use Rattle.document.specs.operation.Ops.{entry_of}
use Rattle.document.specs.oplog.Logs.{history}
use Rattle.rtrb.specs.Ring.{SameProducer, sent, known_free}
use Rattle.followers.proofs.feed.Feed.push.Given as goal

abbrev pub invariant-loop : goal.invariant-loop
invariant-loop l = record {
  free : l.counter + known_free l.self.to ≡ l.end;
  ring : SameProducer l.fn.self.to l.self.to;
  next : l.self.next ≡ l.fn.self.next;
  kept : map entry_of l.self.ahead.items ++ history (sent l.self.to) ≡ map entry_of l.fn.self.ahead.items ++ history (sent l.fn.self.to);
}
