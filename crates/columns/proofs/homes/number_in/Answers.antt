use Rattle.std.proofs.Common.{◌≡◌, ◌∙◌, sym, ap, refl, get_or}
use Rattle.semantics.specs.Ids.{id_at, id_cmp}
use Rattle.std.specs.FinMap.{find}
use Rattle.columns.specs.NumberColumns.{numbered_in}
use Rattle.columns.proofs.NumbersByReplica.{no_column, number_before, number_of_replica}
use Rattle.columns.proofs.homes.number_in.Goals as goal

pub returns-in-None : goal.returns-in-None
returns-in-None c = sym (no_column c.args.id.now c.args.columns.now c.in-None.ensures)

pub returns-in-Some : goal.returns-in-Some
returns-in-Some c =
    let cs = c.args.columns.now in
    let i = c.in-Some.place in
    let column = c.index-columns-place.result in
    let read : column ≡ get_or cs i column = c.index-columns-place.is in
    c.get.ensures
    ∙ ap (λ p. find id_cmp (id_at c.args.id.now.counter p) (numbered_in column))
    (number_of_replica cs i c.args.id.now.replica column c.in-Some.ensures.is read)
    ∙ sym (number_before cs i column column c.args.id.now c.in-Some.ensures.inside read c.requires c.in-Some.ensures.is refl)
