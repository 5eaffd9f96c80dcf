use Rattle.std.proofs.Common.{arith}
use Rattle.cursor.proofs.RootPaths.{depth-hops}
use Rattle.cursor.proofs.place.count_keys.Goals as goal

pub returns-then-is_head : goal.returns-then-is_head
returns-then-is_head c = rw c.if-is_head.true (omega (arith, depth-hops c.args.hops.now))

pub returns-else-is_head : goal.returns-else-is_head
returns-else-is_head c = rw c.if-is_head.false (omega (arith, depth-hops c.args.hops.now))
