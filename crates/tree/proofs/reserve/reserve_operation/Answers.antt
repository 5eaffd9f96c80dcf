use Rattle.std.proofs.Common.{map, ap}
use Rattle.semantics.specs.Operations.{slot_of, value_of}
use Rattle.operation.specs.value.Values.{value_of as meaning_of}
use Rattle.operation.specs.cursor.Steps.{hop_of}
use Rattle.operation.specs.Ops.{mutation_of}
use Rattle.tree.proofs.Reserved.{if_ok_three, place_ready}
use Rattle.tree.proofs.reserve.reserve_operation.Goals as goal

pub returns-in-Assign-clause-reserved : goal.returns-in-Assign-clause-reserved
returns-in-Assign-clause-reserved c =
    let op = c.args.op.now in
    if_ok_three c.reserve_assign.result _ _ _ _
    (λ s room register scalar. place_ready op c.reserve_assign.new.nodes.items s (meaning_of c.in-Assign.value)
    (map hop_of c.hops.result.now)
    (ap (λ m. value_of (mutation_of m)) c.in-Assign.is)
    (ap (λ m. slot_of (mutation_of m) op.place) c.in-Assign.is) c.hops.ensures room register scalar)
    c.reserve_assign.ensures.room c.reserve_assign.ensures.register c.reserve_assign.ensures.scalar
