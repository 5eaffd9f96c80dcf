use Rattle.std.proofs.Common.{◌≡◌, ap, refl, get_or}
use Rattle.columns.specs.NumberColumns.{numbered}
use Rattle.columns.proofs.HomePuts.{columns_pushed, listed_number, nowhere, number_pushed}
use Rattle.columns.proofs.NumbersByReplica.{number_of_replica}
use Rattle.columns.proofs.homes.put_behind.Goals as goal

pub returns-then-not-has_room-clause-entries : goal.returns-then-not-has_room-clause-entries
returns-then-not-has_room-clause-entries c =
    let cs = c.args.columns.now in
    let i = c.args.place in
    let column = get_or cs i c.index-columns-place.result in
    let read : column ≡ get_or cs i column = ap (get_or cs i) c.index-columns-place.is in
    let m = c.args.list.now.entries in
    listed_number m c.put.new.self.entries (numbered cs) c.args.id c.args.number c.len.ensures.rising c.put.ensures.entries
    (nowhere m cs i column column c.args.id c.args.number c.len.ensures.rising c.requires.inside read c.requires.columns
    c.requires.place.is refl
    (number_of_replica cs i c.args.id.replica column c.requires.place.is read) (c.requires.behind c.index-columns-place.result))

pub returns-clause-entries : goal.returns-clause-entries
returns-clause-entries c =
    let cs = c.args.columns.now in
    let i = c.args.place in
    let column = get_or cs i c.index-columns-place-2.result in
    let read : column ≡ get_or cs i column = ap (get_or cs i) c.index-columns-place-2.is in
    number_pushed c.args.list.now.entries cs i column c.push_reserved.new.self c.args.id c.args.number c.len.ensures.rising
    c.requires.inside read c.requires.columns c.requires.place.is c.push_reserved.ensures.replica
    (number_of_replica cs i c.args.id.replica column c.requires.place.is read) (c.requires.behind c.index-columns-place-2.result)
    c.push_reserved.ensures.counters c.push_reserved.ensures.numbers

pub returns-clause-columns : goal.returns-clause-columns
returns-clause-columns c =
    let cs = c.args.columns.now in
    let i = c.args.place in
    let column = get_or cs i c.index-columns-place-2.result in
    let read : column ≡ get_or cs i column = ap (get_or cs i) c.index-columns-place-2.is in
    columns_pushed c.args.list.now.entries cs i column c.push_reserved.new.self c.args.id c.args.number c.len.ensures.rising
    c.requires.inside read c.requires.columns c.requires.place.is c.push_reserved.ensures.replica
    (number_of_replica cs i c.args.id.replica column c.requires.place.is read) (c.requires.behind c.index-columns-place-2.result)
    c.push_reserved.ensures.counters c.push_reserved.ensures.numbers
