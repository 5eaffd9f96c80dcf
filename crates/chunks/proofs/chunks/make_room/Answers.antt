use Rattle.std.proofs.Common.{ap, length, arith, length-append}
use Rattle.std.specs.Prelude.{option_map}
use Rattle.chunks.specs.Chunks.{items_before}
use Rattle.chunks.proofs.chunks.make_room.Goals as goal

pub reserve_in-requires-2 : goal.reserve_in-requires-2
reserve_in-requires-2 g c = record {
  few =
      let was = length-append (items_before (option_map (λ f. f.value) c.args.front.now)) c.args.last.now.items in
      let now = length-append (items_before (option_map (λ f. f.value) c.cut_last.new.front)) c.cut_last.new.last.items in
      let same = ap length c.cut_last.ensures.same in
      let few = c.requires.few in
      omega (arith, was, now, same, few);
}
