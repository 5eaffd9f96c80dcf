use Rattle.std.proofs.Common.{◌∙◌, ap, sym, length}
use Rattle.std.proofs.lemmas.List.{length-map}
use Rattle.columns.specs.Entries.{Entries}
use Rattle.columns.specs.declared.entry.Entry.{Entry}
use Rattle.columns.proofs.Columns.{length-entries_of}
use Rattle.columns.proofs.entry_list.EntryList.len.Goals as goal

pub returns-clause-length : goal.returns-clause-length
returns-clause-length g c = c.len.ensures.length ∙ sym (length-entries_of c.self.inside.entries.items)
    ∙ ap (λ (m : Entries g.row.T.Denot). length m.entries) c.self.view_is

pub returns-clause-indexed : goal.returns-clause-indexed
returns-clause-indexed g c =
    let es = c.self.inside.entries.items in
    ap (λ (m : Entries g.row.T.Denot). length m.indices) (sym c.self.view_is)
    ∙ length-map es (λ (e : Entry g.row.T.Denot). e.index)
    ∙ sym (length-entries_of es)
    ∙ ap (λ (m : Entries g.row.T.Denot). length m.entries) c.self.view_is
