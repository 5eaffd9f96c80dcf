use Rattle.std.proofs.Common.{◌∙◌, sym, ap}
use Rattle.std.specs.FinMap.{find}
use Rattle.semantics.specs.Ids.{OpId, id_cmp}
use Rattle.columns.specs.Numbered.{Numbered}
use Rattle.columns.specs.NumberColumns.{numbered}
use Rattle.columns.specs.declared.number_column.NumberColumn.{NumberColumn}
use Rattle.std.proofs.Common.{List}
use Rattle.columns.proofs.HomePuts.{found_in_column, found_in_list}
use Rattle.columns.proofs.homes.Homes.get.Goals as goal

pub returns-in-None : goal.returns-in-None
returns-in-None c =
    let h = c.self.inside in
    let none = ap (λ (xs : List NumberColumn). find id_cmp c.args.id.now (numbered xs)) (sym c.deref.ensures.value)
    ∙ sym c.number_in.ensures ∙ c.in-None.is in
    c.get.ensures ∙ sym (found_in_list h.list.entries (numbered h.columns.items) c.args.id.now none)
    ∙ ap (λ (n : Numbered OpId). find id_cmp c.args.id.now n.entries) c.self.view_is

pub returns-in-Some : goal.returns-in-Some
returns-in-Some c =
    let h = c.self.inside in
    let some = ap (λ (xs : List NumberColumn). find id_cmp c.args.id.now (numbered xs)) (sym c.deref.ensures.value)
    ∙ sym c.number_in.ensures ∙ c.in-Some.is in
    sym (found_in_column h.list.entries (numbered h.columns.items) c.args.id.now c.in-Some.number some)
    ∙ ap (λ (n : Numbered OpId). find id_cmp c.args.id.now n.entries) c.self.view_is
