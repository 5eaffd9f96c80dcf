use Rattle.std.proofs.Common.{◌≡◌, ◌∙◌, sym, ap, subst, List, false, ◌<◌, length, arith}
use Rattle.ids.specs.Members.{is_member}
use Rattle.columns.specs.ReplicaColumns.{AreApart, IsUpTo, all_standing, replicas_of, standing}
use Rattle.columns.proofs.UpTo.{up_to_push, up_to_set_same}
use Rattle.std.specs.List.{All}
use Rattle.columns.specs.declared.replica_column.ReplicaColumn.{ReplicaColumn}
use Rattle.columns.proofs.WrittenColumns.{apart_push, apart_set_same, same_column, standing_push, standing_set_same}
use Rattle.columns.specs.Marks.{AreMarked}
use Rattle.std.proofs.Math.Seq.{map-set_same}
use Rattle.columns.proofs.replica_columns.reserve_column.Goals as goal

pub returns-in-Some-clause-standing : goal.returns-in-Some-clause-standing
returns-in-Some-clause-standing c =
    let cs = c.args.columns.now.items in
    let column = c.index_mut.result.now in
    standing_set_same cs c.in-Some.place column c.reserve_one.new.self c.index_mut.ensures.value
    (same_column column c.reserve_one.new.self c.reserve_one.ensures.same c.reserve_one.ensures.counters)

pub returns-in-Some-clause-apart : goal.returns-in-Some-clause-apart
returns-in-Some-clause-apart c apart =
    let cs = c.args.columns.now.items in
    let column = c.index_mut.result.now in
    apart_set_same c.args.list.now cs c.in-Some.place column c.reserve_one.new.self
    (subst (λ
    (xs : List ReplicaColumn). c.in-Some.place < length xs) c.deref.ensures.value c.in-Some.ensures.inside) c.index_mut.ensures.value
    c.reserve_one.ensures.same c.reserve_one.ensures.counters apart

pub returns-in_ok-push-in-None-clause-standing : goal.returns-in_ok-push-in-None-clause-standing
returns-in_ok-push-in-None-clause-standing c =
    let column = c.in_ok-column-in-None.column in
    ap standing c.in_ok-push-in-None.ensures.items
    ∙ standing_push c.args.columns.now.items column c.in_ok-column-in-None.ensures.counters

pub returns-in_ok-push-in-None-clause-apart : goal.returns-in_ok-push-in-None-clause-apart
returns-in_ok-push-in-None-clause-apart c apart =
    let cs = c.args.columns.now.items in
    let column = c.in_ok-column-in-None.column in
    let none : is_member (replicas_of cs) column.replica ≡ false =
    ap (is_member (replicas_of cs)) c.in_ok-column-in-None.ensures.replica
    ∙ subst (λ (xs : List ReplicaColumn). is_member (replicas_of xs) c.args.replica ≡ false) c.deref.ensures.value c.in-None.ensures in
    subst (λ (xs : List ReplicaColumn). AreApart c.args.list.now xs) (sym c.in_ok-push-in-None.ensures.items)
    (apart_push c.args.list.now cs column c.in_ok-column-in-None.ensures.counters none apart)

pub returns-in-Some-clause-up_to : goal.returns-in-Some-clause-up_to
returns-in-Some-clause-up_to c all =
    let cs = c.args.columns.now.items in
    let column = c.index_mut.result.now in
    up_to_set_same (all_standing c.args.list.now cs) cs c.in-Some.place column c.reserve_one.new.self
    (subst (λ (xs : List ReplicaColumn). c.in-Some.place < length xs) c.deref.ensures.value c.in-Some.ensures.inside)
    c.index_mut.ensures.value c.reserve_one.ensures.same.replica c.reserve_one.ensures.greatest all

pub returns-in_ok-push-in-None-clause-up_to : goal.returns-in_ok-push-in-None-clause-up_to
returns-in_ok-push-in-None-clause-up_to c all =
    let L = c.args.list.now in
    let cs = c.args.columns.now.items in
    let column = c.in_ok-column-in-None.column in
    let own : column.replica ≡ c.args.replica = c.in_ok-column-in-None.ensures.replica in
    let greatest = c.in_ok-column-in-None.ensures.greatest in
    let none : is_member (replicas_of cs) column.replica ≡ false =
    ap (is_member (replicas_of cs)) own
    ∙ subst (λ (xs : List ReplicaColumn). is_member (replicas_of xs) c.args.replica ≡ false) c.deref.ensures.value c.in-None.ensures in
    subst (All (IsUpTo (all_standing L cs))) (sym c.in_ok-push-in-None.ensures.items)
    (up_to_push L cs column none (λ q mine there. (let h = c.greatest_of-greatest.ensures q (mine ∙ own) there in
    omega (arith, h, greatest))) all)

pub returns-in-Some-clause-marked : goal.returns-in-Some-clause-marked
returns-in-Some-clause-marked c =
    let cs = c.args.columns.now.items in
    let column = c.index_mut.result.now in
    subst (AreMarked c.args.marks.now)
    (sym (map-set_same (λ (x : ReplicaColumn). x.replica) cs c.in-Some.place c.reserve_one.new.self column
    (c.reserve_one.ensures.same.replica ∙ ap (λ (x : ReplicaColumn). x.replica) c.index_mut.ensures.value)))
    c.requires
