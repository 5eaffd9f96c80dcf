use Rattle.std.proofs.Common.{subst, Option, IsFalse, ℕ}
use Rattle.std.specs.Prelude.{MatchOption}
use Rattle.ids.specs.Members.{is_member}
use Rattle.columns.specs.ReplicaColumns.{IsColumnAt, all_standing, index_at, replicas_of}
use Rattle.columns.proofs.ByReplica.{find_no_column}
use Rattle.columns.proofs.StandingPuts.{counted_in_list, put_in_list}
use Rattle.columns.proofs.UpTo.{up_to_beside}
use Rattle.columns.proofs.replica_columns.put_standing.Goals as goal

pub returns-in-None-clause-standing : goal.returns-in-None-clause-standing
returns-in-None-clause-standing c =
    put_in_list c.args.list.now c.put.new.self c.args.columns.now c.args.id c.args.index c.args.tag c.len.ensures.rising
    c.len.ensures.indexed c.put.ensures.entries c.put.ensures.indices (find_no_column c.args.id c.args.columns.now
    (subst (λ (o : Option ℕ). MatchOption o (IsFalse (is_member (replicas_of c.args.columns.now) c.args.id.replica))
    (λ i. IsColumnAt c.args.columns.now c.args.id.replica i)) c.in-None.is c.requires.place))

pub returns-in-None-clause-counted : goal.returns-in-None-clause-counted
returns-in-None-clause-counted c =
    let L = c.args.list.now in
    let N = c.put.new.self in
    let cs = c.args.columns.now in
    let a = c.requires.counted in
    let none = subst (λ (o : Option ℕ). MatchOption o (IsFalse (is_member (replicas_of cs) c.args.id.replica))
    (λ i. IsColumnAt cs c.args.id.replica i)) c.in-None.is c.requires.place in
    let gone = find_no_column c.args.id cs none in
    let is = put_in_list L N cs c.args.id c.args.index c.args.tag c.len.ensures.rising c.len.ensures.indexed c.put.ensures.entries
    c.put.ensures.indices gone in
    counted_in_list L N cs c.args.count.now c.args.id c.args.index c.args.tag c.len.ensures.rising c.len.ensures.indexed
    c.put.ensures.entries c.put.ensures.indices gone
    (up_to_beside (all_standing L cs) (all_standing N cs) c.args.id (c.args.tag, index_at c.args.id c.args.index (all_standing L cs)) is cs
    a.up_to none) a
