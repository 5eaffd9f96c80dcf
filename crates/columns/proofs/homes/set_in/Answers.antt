use Rattle.std.proofs.Common.{◌≡◌, ◌<◌, ◌∙◌, length, sym, ap, refl, subst, get_or}
use Rattle.std.proofs.lemmas.List.{get_or_default}
use Rattle.columns.specs.NumberColumns.{numbered}
use Rattle.columns.specs.declared.number_column.NumberColumn.{NumberColumn}
use Rattle.columns.proofs.HomePuts.{columns_set, in_list, listed_number, number_set}
use Rattle.columns.proofs.NumbersByReplica.{number_before, number_of_replica, run_absent}
use Rattle.columns.proofs.homes.set_in.Goals as goal

pub set-requires : goal.set-requires
set-requires c =
    let cs = c.args.columns.now in
    let i = c.args.place in
    let column = get_or cs i c.index-columns-place.result in
    let read : column ≡ get_or cs i column = ap (get_or cs i) c.index-columns-place.is in
    let none = number_before cs i column column c.args.id.now c.requires.inside read c.requires.columns c.requires.place.is refl
    ∙ run_absent c.args.id.now column.replica column.counters.items column.numbers.items c.in-None.ensures in
    in_list c.args.list.now.entries (numbered cs) c.args.id.now none c.requires.there

pub returns-in-None-clause-entries : goal.returns-in-None-clause-entries
returns-in-None-clause-entries c =
    let cs = c.args.columns.now in
    let i = c.args.place in
    let column = get_or cs i c.index-columns-place.result in
    let read : column ≡ get_or cs i column = ap (get_or cs i) c.index-columns-place.is in
    let none = number_before cs i column column c.args.id.now c.requires.inside read c.requires.columns c.requires.place.is refl
    ∙ run_absent c.args.id.now column.replica column.counters.items column.numbers.items c.in-None.ensures in
    listed_number c.args.list.now.entries c.set.new.self.entries
    (numbered cs) c.args.id.now c.args.number c.len.ensures.rising c.set.ensures.entries
    none

pub returns-in-Some-clause-entries : goal.returns-in-Some-clause-entries
returns-in-Some-clause-entries c =
    let cs = c.args.columns.now in
    let i = c.args.place in
    let column = get_or cs i c.index-columns-place-in-Some.result in
    let read : column ≡ get_or cs i column = ap (get_or cs i) c.index-columns-place-in-Some.is in
    let asked : get_or cs i c.index-columns-place.result ≡ column =
    get_or_default cs i c.index-columns-place.result c.index-columns-place-in-Some.result c.requires.inside in
    number_set c.args.list.now.entries cs i column c.set-in-Some.new.self c.args.id.now c.args.number c.len.ensures.rising
    c.requires.inside read c.requires.columns c.requires.place.is c.set-in-Some.ensures.replica
    (number_of_replica cs i c.args.id.now.replica column c.requires.place.is read) c.in-Some.position
    (subst (λ (x : NumberColumn). c.in-Some.position < length x.counters.items) asked c.in-Some.ensures.0)
    (λ e. ap (λ (x : NumberColumn). get_or x.counters.items c.in-Some.position e) (sym asked) ∙ c.in-Some.ensures.1 e)
    c.set-in-Some.ensures.counters c.set-in-Some.ensures.numbers

pub returns-in-Some-clause-columns : goal.returns-in-Some-clause-columns
returns-in-Some-clause-columns c =
    let cs = c.args.columns.now in
    let i = c.args.place in
    let column = get_or cs i c.index-columns-place-in-Some.result in
    let read : column ≡ get_or cs i column = ap (get_or cs i) c.index-columns-place-in-Some.is in
    let asked : get_or cs i c.index-columns-place.result ≡ column =
    get_or_default cs i c.index-columns-place.result c.index-columns-place-in-Some.result c.requires.inside in
    columns_set c.args.list.now.entries cs i column c.set-in-Some.new.self c.args.id.now c.args.number c.len.ensures.rising
    c.requires.inside read c.requires.columns c.requires.place.is c.set-in-Some.ensures.replica
    (number_of_replica cs i c.args.id.now.replica column c.requires.place.is read) c.in-Some.position
    (subst (λ (x : NumberColumn). c.in-Some.position < length x.counters.items) asked c.in-Some.ensures.0)
    (λ e. ap (λ (x : NumberColumn). get_or x.counters.items c.in-Some.position e) (sym asked) ∙ c.in-Some.ensures.1 e)
    c.set-in-Some.ensures.counters c.set-in-Some.ensures.numbers
