use Rattle.std.proofs.Common.{arith}
use Rattle.chunks.proofs.Spare.{room_past}
use Rattle.chunks.proofs.front.make_room.Goals as goal

pub returns-then-put-len-clause-room : goal.returns-then-put-len-clause-room
returns-then-put-len-clause-room g c =
    let past = c.if-put-len.true in
    let one = room_past c.args.put c.args.chunks.now.items (omega (arith, past)) in
    omega (arith, one)
