use Rattle.std.proofs.Common.{◌≡◌, map, None, sym, ap, ◌∙◌}
use Rattle.semantics.specs.Operations.{slot_of, value_of}
use Rattle.operation.specs.value.Values.{value_of as meaning_of}
use Rattle.operation.specs.cursor.Steps.{hop_of}
use Rattle.operation.specs.Ops.{mutation_of}
use Rattle.tree.proofs.Slots.{slot_of_any}
use Rattle.tree.proofs.Reserved.{if_ok_three, place_ready}
use Rattle.tree.proofs.reserve.reserve_slot.Goals as goal

pub returns-in-None-clause-reserved : goal.returns-in-None-clause-reserved
returns-in-None-clause-reserved c =
    let op = c.args.op.now in
    let v = meaning_of c.args.value.now in
    let slot : slot_of (mutation_of op.mutation) op.place ≡ None = ap (λ m. slot_of m op.place) c.requires.insert ∙ slot_of_any v op.place
    ∙ sym c.in-None.ensures in
    if_ok_three c.reserve_assign.result _ _ _ _
    (λ s room register scalar. place_ready op c.reserve_assign.new.nodes.items s v (map hop_of c.hops.result.now)
    (ap value_of c.requires.insert) slot c.hops.ensures room register scalar)
    c.reserve_assign.ensures.room c.reserve_assign.ensures.register c.reserve_assign.ensures.scalar
