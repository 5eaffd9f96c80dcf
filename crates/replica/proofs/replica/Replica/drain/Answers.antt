use Rattle.std.proofs.Common.{◌≡◌, ◌∷◌, Option, Some, None, rules, sym, ap, ◌∙◌, subst, length, min, arith}
use Rattle.std.specs.Prelude.{IfSome}
use Rattle.std.proofs.lemmas.List.{length-map}
use Rattle.semantics.specs.Entries.{IsEntryHistory, Peer}
use Rattle.semantics.specs.Publication.{with_entry}
use Rattle.semantics.specs.Replica.{Replica, IsRunning}
use Rattle.semantics.specs.Drain.{counted, IsDrained, drain}
use Rattle.semantics.proofs.Drained.{drained}
use Rattle.inbox.specs.operation.declared.op.Op.{Op}
use Rattle.inbox.specs.operation.Ops.{stamped_of}
use Rattle.replica.specs.Replicas.{Running, IsReplica, IsNextReady, next_of, replica_of}
use Rattle.replica.proofs.Draining.{begun, dropping_on, may_follow, has_room, fits, appending_on, renamed, whole_where_none, whole_by_count}
use Rattle.replica.proofs.replica.Replica.drain.Goals as goal

running : {r q : Running} → r ≡ q → IsReplica r → IsRunning (replica_of q)
running is h = subst (λ (q : Running). IsRunning (replica_of q)) is h.running

-- no more were dropped than are counted
all_counted : (r q : Running) → r ≡ q → IsReplica r → counted (replica_of q) ≡ replica_of q
all_counted r q e h = λ i. record (replica_of q) { dropped = all i }
  where
    all : min q.dropped 18446744073709551615 ≡ q.dropped
    all = let c = (subst IsReplica e h).count in omega arith

-- what holds of an operation, if there is one, holds of the one that there is
there : (P : Op → Type 0) {o : Option Op} {op : Op} → o ≡ Some op → IfSome o P → P op
there P e = subst (λ (x : Option Op). IfSome x P) e

-- what is ready, if there is one, is ready where there is one
next : {r : Running} {o : Option Op} {op : Op} → o ≡ Some op → IfSome o (λ op. IsNextReady r (stamped_of op))
    → IsNextReady r (stamped_of op)
next {r = r} = there (λ op. IsNextReady r (stamped_of op))

pub loop-init : goal.loop-init
loop-init g c = begun (replica_of c.args.self.now) (g.P.Publish.publication c.args.publisher.now)
    (all_counted _ _ c.self.view_is c.self.invariant) c.requires.holds

pub returns-in_err-op-clause-partly : goal.returns-in_err-op-clause-partly
returns-in_err-op-clause-partly g c =
    let w = dropping_on c.loop.invariant (running c.self.view_is c.self.invariant) c.next_ready.ensures.dropped in (w.turns, w.after)

pub returns-in_err-op-clause-holds : goal.returns-in_err-op-clause-holds
returns-in_err-op-clause-holds g c =
    let w = dropping_on c.loop.invariant (running c.self.view_is c.self.invariant) c.next_ready.ensures.dropped in w.holds

pub returns-in_default-clause-drained : goal.returns-in_default-clause-drained
returns-in_default-clause-drained g c =
    let w = dropping_on c.loop.invariant (running c.self.view_is c.self.invariant) c.next_ready.ensures.dropped in
    let none : c.in_ok-op.field-0 ≡ None = search rules in
    let next : next_of (replica_of c.next_ready.new.self) ≡ None = search (rules, none, c.in_ok-op.ensures.next) in
    whole_where_none w (running c.self.view_is c.self.invariant) next

pub returns-in_default-clause-partly : goal.returns-in_default-clause-partly
returns-in_default-clause-partly g c =
    let w = dropping_on c.loop.invariant (running c.self.view_is c.self.invariant) c.next_ready.ensures.dropped in (w.turns, w.after)

pub returns-in_default-clause-holds : goal.returns-in_default-clause-holds
returns-in_default-clause-holds g c =
    let w = dropping_on c.loop.invariant (running c.self.view_is c.self.invariant) c.next_ready.ensures.dropped in w.holds

pub add-requires-clause-lawful : goal.add-requires-clause-lawful
add-requires-clause-lawful g c =
    let w = dropping_on c.loop.invariant (running c.self.view_is c.self.invariant) c.next_ready.ensures.dropped in
    let h = g.P.Publish.publication c.loop.publisher in
    let n = next c.in-Some.is c.in_ok-op.ensures.ready in
    subst (λ ps. IsEntryHistory h.own (Peer (stamped_of c.in-Some.op) ∷ h.appended)) (sym w.holds.members)
    (may_follow w n.next n.faultless (running c.self.view_is c.self.invariant))

pub add-requires-clause-room : goal.add-requires-clause-room
add-requires-clause-room g c =
    let w = dropping_on c.loop.invariant (running c.self.view_is c.self.invariant) c.next_ready.ensures.dropped in
    let n = next c.in-Some.is c.in_ok-op.ensures.ready in has_room w n.next n.faultless

pub add-requires-clause-fits : goal.add-requires-clause-fits
add-requires-clause-fits g c =
    let w = dropping_on c.loop.invariant (running c.self.view_is c.self.invariant) c.next_ready.ensures.dropped in
    let n = next c.in-Some.is c.in_ok-op.ensures.ready in fits w n.next n.faultless

pub returns-in_err-add-clause-partly : goal.returns-in_err-add-clause-partly
returns-in_err-add-clause-partly g c =
    let w = dropping_on c.loop.invariant (running c.self.view_is c.self.invariant) c.next_ready.ensures.dropped in (w.turns, w.after)

pub returns-in_err-add-clause-holds : goal.returns-in_err-add-clause-holds
returns-in_err-add-clause-holds g c =
    let w = dropping_on c.loop.invariant (running c.self.view_is c.self.invariant) c.next_ready.ensures.dropped in
    (renamed w (g.P.Publish.publication c.add.new.self) c.in_err-add.ensures.same).holds

pub loop-preserved : goal.loop-preserved
loop-preserved g c =
    let w = dropping_on c.loop.invariant (running c.self.view_is c.self.invariant) c.next_ready.ensures.dropped in
    let h = g.P.Publish.publication c.loop.publisher in
    let n = next c.in-Some.is c.in_ok-op.ensures.ready in
    appending_on w n.next n.faultless (g.P.Publish.publication c.add.new.self) (replica_of c.commit_peer.new.self)
    (c.in_ok-add.ensures.added ∙ ap (λ ps. with_entry h (Peer (stamped_of c.in-Some.op))) w.holds.members) c.commit_peer.ensures

pub returns-clause-drained : goal.returns-clause-drained
returns-clause-drained g c =
    let long = length-map c.args.self.now.waiting stamped_of in
    whole_by_count c.loop.invariant (running c.self.view_is c.self.invariant)
    (let e = c.len-end.ensures in let v = ap (λ (q : Running). length q.waiting) c.self.view_is in
    omega (arith, long, e, v, c.loop-test.false))

-- after a drain nothing that waits is ready, unless the history is full
settled : (q r : Replica) → IsRunning r → q ≡ counted (drain r) → IsDrained q
settled q r h is = subst IsDrained (sym is) (drained r h).2

pub returns-in_default-clause-settled : goal.returns-in_default-clause-settled
returns-in_default-clause-settled g c =
    settled _ (replica_of c.args.self.now) (running c.self.view_is c.self.invariant) (returns-in_default-clause-drained g c)

pub returns-clause-settled : goal.returns-clause-settled
returns-clause-settled g c =
    settled _ (replica_of c.args.self.now) (running c.self.view_is c.self.invariant) (returns-clause-drained g c)
