use Rattle.lanes.proofs.Bits.{ones-packed}
use Rattle.lanes.proofs.mask.masks_keep_counts.Goals as goal

pub returns : goal.returns
returns c = ones-packed
