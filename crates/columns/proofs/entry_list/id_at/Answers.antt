use Rattle.std.proofs.Common.{◌∙◌, ap, sym}
use Rattle.std.proofs.lemmas.Option.{get_or_from_slice_get}
use Rattle.columns.specs.Entries.{entries_of}
use Rattle.columns.proofs.Columns.{slice_get-entries_of, get_or-keys_of}
use Rattle.columns.proofs.entry_list.id_at.Goals as goal

pub returns : goal.returns
returns g c d =
    let e = c.get.result.now in
    let es = entries_of c.args.entries.now.items in
    get_or-keys_of es c.args.position (d, e.value)
    ∙ ap (λ x. x.0) (get_or_from_slice_get es c.args.position _ (d, e.value)
    (slice_get-entries_of c.args.entries.now.items c.args.position e c.get.ensures))
    ∙ sym c.id.ensures
