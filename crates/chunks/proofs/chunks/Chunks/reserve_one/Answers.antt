use Rattle.std.proofs.Common.{ap, length, arith, length-append}
use Rattle.std.specs.Prelude.{option_map}
use Rattle.chunks.specs.Chunks.{items_before}
use Rattle.chunks.proofs.chunks.Chunks.reserve_one.Goals as goal

pub invariant_of-self : goal.invariant_of-self
invariant_of-self g c =
    let d = c.self.inside in
    let was = length-append (items_before (option_map (λ f. f.value) d.front)) d.last.items in
    let now = length-append (items_before (option_map (λ f. f.value) c.make_room.new.front)) c.make_room.new.last.items in
    let same = ap length c.make_room.ensures.same in
    let few = c.self.invariant in
    omega (arith, was, now, same, few)
