use Rattle.std.proofs.Common.{refl, take}
use Rattle.std.proofs.lemmas.Option.{slice_get_read}
use Rattle.columns.proofs.InBlock.{floor_next}
use Rattle.columns.proofs.block.floor_of.Goals as goal

pub loop-id-preserved : goal.loop-id-preserved
loop-id-preserved c =
    let xs = c.args.ids.now in
    let x = c.id-item.result in
    floor_next c.lower-floor.result xs c.loop-id.id-index x (slice_get_read xs _ c.loop-id.id-index x refl c.loop-id-test.true c.id-item.is)
    (c.lower-floor.ensures (take c.loop-id.id-index xs) c.loop-id.invariant)
