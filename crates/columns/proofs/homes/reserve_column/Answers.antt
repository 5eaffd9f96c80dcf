use Rattle.std.proofs.Common.{◌≡◌, ◌∙◌, sym, ap, subst, List, false, ◌<◌, length}
use Rattle.ids.specs.Members.{is_member}
use Rattle.columns.specs.NumberColumns.{AreNumberColumns, numbered, numbered_run, numbering}
use Rattle.columns.specs.declared.number_column.NumberColumn.{NumberColumn}
use Rattle.columns.proofs.NumbersByReplica.{more_columns, numbered_more, numbered_same, same_columns}
use Rattle.columns.proofs.homes.reserve_column.Goals as goal

pub returns-in-Some-clause-same : goal.returns-in-Some-clause-same
returns-in-Some-clause-same c =
    numbered_same c.args.columns.now.items c.in-Some.place c.index_mut.result.now c.reserve_one.new.self c.index_mut.ensures.value
    (λ t. numbered_run (c.reserve_one.ensures.replica t) (c.reserve_one.ensures.counters t) (c.reserve_one.ensures.numbers t))

pub returns-in-Some-clause-columns : goal.returns-in-Some-clause-columns
returns-in-Some-clause-columns c =
    same_columns c.args.columns.now.items c.in-Some.place c.index_mut.result.now c.reserve_one.new.self
    (subst (λ
    (xs : List NumberColumn). c.in-Some.place < length xs) c.deref.ensures.value c.in-Some.ensures.inside) c.index_mut.ensures.value
    c.requires c.reserve_one.ensures.replica c.reserve_one.ensures.counters c.reserve_one.ensures.numbers

pub returns-in_ok-push-in-None-clause-same : goal.returns-in_ok-push-in-None-clause-same
returns-in_ok-push-in-None-clause-same c =
    ap numbered c.in_ok-push-in-None.ensures.items
    ∙ numbered_more c.args.columns.now.items c.in_ok-with_room-in-None.field-0 c.in_ok-with_room-in-None.ensures.counters

pub returns-in_ok-push-in-None-clause-columns : goal.returns-in_ok-push-in-None-clause-columns
returns-in_ok-push-in-None-clause-columns c =
    let cs = c.args.columns.now.items in
    let column = c.in_ok-with_room-in-None.field-0 in
    let none : is_member (numbering cs) column.replica ≡ false =
    ap (is_member (numbering cs)) c.in_ok-with_room-in-None.ensures.replica
    ∙ subst (λ (xs : List NumberColumn). is_member (numbering xs) c.args.replica ≡ false) c.deref.ensures.value c.in-None.ensures in
    subst AreNumberColumns (sym c.in_ok-push-in-None.ensures.items)
    (more_columns cs column c.in_ok-with_room-in-None.ensures.counters c.in_ok-with_room-in-None.ensures.numbers none c.requires)
