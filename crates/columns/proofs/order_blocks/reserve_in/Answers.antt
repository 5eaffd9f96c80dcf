use Rattle.std.proofs.Common.{◌≡◌, ◌<◌, sym, refl, slice_get, Some, subst}
use Rattle.std.specs.Prelude.{OnOk}
use Rattle.std.proofs.lemmas.Option.{slice_get_read}
use Rattle.semantics.proofs.SetElements.{get-set_same}
use Rattle.columns.proofs.Changed.{room_here}
use Rattle.columns.proofs.CutBlocks.{same_list}
use Rattle.columns.proofs.order_blocks.reserve_in.Goals as goal

pub returns-clause-same : goal.returns-clause-same
returns-clause-same c = λ homes are.
    let runs = c.args.blocks.now.items in
    let k = c.args.block in
    let r = c.index_mut.result.now in
    let is : slice_get runs k ≡ Some r = slice_get_read runs _ k r refl c.requires c.index_mut.ensures.value in
    same_list runs homes k r c.reserve_one.new.self are is c.reserve_one.ensures.number c.reserve_one.ensures.items
    c.reserve_one.ensures.flags c.reserve_one.ensures.kept

pub returns-clause-room : goal.returns-clause-room
returns-clause-room c =
    let runs = c.args.blocks.now.items in
    let k = c.args.block in
    let r = c.index_mut.result.now in
    let q = c.reserve_one.new.self in
    let is : slice_get runs k ≡ Some r = slice_get_read runs _ k r refl c.requires c.index_mut.ensures.value in
    subst (λ n. OnOk c.reserve_one.result (0 < n)) (sym (room_here _ k q (get-set_same runs k r q is))) c.reserve_one.ensures.room
