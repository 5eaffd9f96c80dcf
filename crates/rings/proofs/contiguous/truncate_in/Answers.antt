use Rattle.std.proofs.Common.{◌∙◌, ◌/◌, ap, sym, take}
use Rattle.rings.specs.Rings.{straight}
use Rattle.rings.specs.Starts.{starts_of}
use Rattle.rings.proofs.Turned.{zero_straight, zero_take}
use Rattle.rings.proofs.contiguous.truncate_in.Goals as goal

pub returns-clause-items : goal.returns-clause-items
returns-clause-items g c =
    let starts = starts_of c.args.starts.now in
    let slots = c.args.slots.now.items in
    let cut = c.args.count / 2048 in
    (λ t. straight 2048 (c.truncate-2.ensures.starts t) (c.truncate.ensures.items t))
    ∙ zero_straight 2048 (take cut starts) (take c.args.count slots) (zero_take cut starts c.requires.straight)
    ∙ ap (take c.args.count) (sym (zero_straight 2048 starts slots c.requires.straight))
