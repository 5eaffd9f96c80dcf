use Rattle.std.proofs.Common.{◌∙◌, ◌/◌, ap, sym, take, length, slice_get, refl}
use Rattle.std.specs.List.{remove}
use Rattle.std.proofs.lemmas.Option.{slice_get_read}
use Rattle.rings.specs.Rings.{straight}
use Rattle.rings.specs.Starts.{starts_of}
use Rattle.rings.proofs.Turned.{zero_straight, zero_take}
use Rattle.rings.proofs.contiguous.remove_in.Goals as goal

pub returns-clause-items : goal.returns-clause-items
returns-clause-items g c =
    let starts = starts_of c.args.starts.now in
    let slots = c.args.slots.now.items in
    let i = c.args.position in
    let cut = c.len.result / 2048 in
    (λ t. straight 2048 (c.truncate.ensures.starts t) (c.remove-item.ensures.items t))
    ∙ zero_straight 2048 (take cut starts) (remove slots i) (zero_take cut starts c.requires.straight)
    ∙ ap (λ xs. remove xs i) (sym (zero_straight 2048 starts slots c.requires.straight))

pub returns-clause-value : goal.returns-clause-value
returns-clause-value g c =
    let slots = c.args.slots.now.items in
    ap (λ xs. slice_get xs c.args.position) (zero_straight 2048 (starts_of c.args.starts.now) slots c.requires.straight)
    ∙ slice_get_read slots (length slots) c.args.position c.remove-item.result refl c.requires.within c.remove-item.ensures.value
