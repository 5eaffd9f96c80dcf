use Rattle.std.proofs.Common.{[], refl, ap, ◌∙◌, sym, get_or, length, arith}
use Rattle.std.specs.FinMap.{find}
use Rattle.std.proofs.lemmas.List.{get_or-map}
use Rattle.semantics.specs.Ids.{OpId, id_cmp}
use Rattle.columns.specs.Numbered.{Numbered}
use Rattle.oplog.specs.Logs.{Logged, history, position_of}
use Rattle.oplog.proofs.Positions.{absent_elsewhere, own_column, positions_by-find, positions_inside}
use Rattle.oplog.proofs.log.Log.find.Goals as goal

pub returns-in_err-index : goal.returns-in_err-index
returns-in_err-index c =
    let d = c.self.inside in
    c.from_residual.ensures
    ∙ sym
    (absent_elsewhere d.table.numbers (history d.entries.items) c.args.id (c.in_err-index.ensures.none.0 refl) c.self.invariant.members)
    ∙ ap (λ (l : Logged). position_of c.args.id l.entries) c.self.view_is

pub index-requires : goal.index-requires
index-requires c =
    let d = c.self.inside in
    let h = positions_inside
    (history d.entries.items) d.table.numbers d.positions.items c.in_ok-index.index c.args.id.replica c.in_ok-index.ensures.found
    c.self.invariant.positions_are in
    omega arith

pub returns : goal.returns
returns c =
    let d = c.self.inside in
    let G = history d.entries.items in
    let f = λ (n : Numbered OpId). n.entries in
    let i = c.in_ok-index.index in
    let a = c.args.id in
    let found = c.in_ok-index.ensures.found in
    let inside = positions_inside G d.table.numbers d.positions.items i a.replica found c.self.invariant.positions_are in
    c.get.ensures
    ∙ ap (find id_cmp a)
    (ap f c.index.ensures ∙ sym (get_or-map f d.positions.items i c.index.result.now [] inside)
    ∙ ap (λ ms. get_or ms i []) c.self.invariant.positions_are ∙ own_column G d.table.numbers (length d.positions.items) i a.replica found)
    ∙ positions_by-find a.replica G a refl
    ∙ ap (λ (l : Logged). position_of a l.entries) c.self.view_is
