use Rattle.std.proofs.Common.{◌∙◌, ◌/◌, ap, take}
use Rattle.rings.specs.Rings.{straight}
use Rattle.rings.specs.Starts.{starts_of}
use Rattle.rings.proofs.Turned.{zero_straight, zero_take}
use Rattle.rings.proofs.contiguous.retain_in.Goals as goal

pub returns-clause-kept : goal.returns-clause-kept
returns-clause-kept g c =
    let starts = starts_of c.args.starts.now in
    let slots = c.args.slots.now.items in
    let cut = c.len.result / 2048 in
    rw (
      zero_straight 2048 starts slots c.requires.straight,
      ap (λ ss. straight 2048 ss c.retain.new.self.items) c.truncate.ensures.starts
          ∙ zero_straight 2048 (take cut starts) c.retain.new.self.items (zero_take cut starts c.requires.straight),
    )
    c.retain.ensures.filtered
