use Rattle.std.proofs.Common.{◌<◌, ◌∙◌, ap, sym, subst, arith, length, slice_get, Some}
use Rattle.columns.specs.Entries.{Entries, entries_of}
use Rattle.columns.proofs.Columns.{length-entries_of, slice_get-entries_of}
use Rattle.columns.proofs.entry_list.EntryList.at.Goals as goal

pub get-entry-requires : goal.get-entry-requires
get-entry-requires g c =
    let es = c.self.inside.entries.items in
    let within : c.args.position < length (entries_of es) = subst
    (λ (m : Entries g.row.T.Denot). c.args.position < length m.entries) (sym c.self.view_is) c.requires in
    let long = length-entries_of es in
    omega (arith, within, long)

pub returns : goal.returns
returns g c =
    let e = c.get-entry.result.now in
    ap (λ (m : Entries g.row.T.Denot). slice_get m.entries c.args.position) (sym c.self.view_is)
    ∙ slice_get-entries_of c.self.inside.entries.items c.args.position e c.get-entry.ensures
    ∙ (λ t. Some (sym c.id.ensures t, e.value))
