use Rattle.std.proofs.Common.{◌≡◌, Option, Some, None, rules, subst, arith}
use Rattle.std.specs.Prelude.{IfSome}
use Rattle.std.proofs.lemmas.List.{length-map}
use Rattle.replica.specs.operation.declared.op.Op.{Op}
use Rattle.replica.specs.operation.Ops.{stamped_of}
use Rattle.replica.specs.Replicas.{Running, IsNextReady, next_of, replica_of}
use Rattle.session.proofs.Draining.{appending_on, dropping_on, fewer, no_more, whole}
use Rattle.session.proofs.session.drain.Goals as goal

-- if something is ready, what is returned is ready
next : {r : Running} {o : Option Op} {op : Op} → o ≡ Some op → IfSome o (λ op. IsNextReady r (stamped_of op))
    → IsNextReady r (stamped_of op)
next {r = r} e = subst (λ (x : Option Op). IfSome x (λ op. IsNextReady r (stamped_of op))) e

pub returns-in_err-op-clause-partly : goal.returns-in_err-op-clause-partly
returns-in_err-op-clause-partly c = let w = dropping_on c.loop-op.invariant c.in_err-op.ensures.dropped in (w.turns, w.after)

pub loop-op-preserved : goal.loop-op-preserved
loop-op-preserved c =
    let n = next c.in-Some.is c.in_ok-op.ensures.ready in
    appending_on (dropping_on c.loop-op.invariant c.in_ok-op.ensures.dropped) (stamped_of c.in-Some.op) n.next n.faultless
    c.commit_peer.ensures

pub loop-op-smaller : goal.loop-op-smaller
loop-op-smaller c =
    let n = next c.in-Some.is c.in_ok-op.ensures.ready in
    let w = dropping_on c.loop-op.invariant c.in_ok-op.ensures.dropped in
    let less = fewer w (stamped_of c.in-Some.op) c.document.ensures.running n.next c.commit_peer.ensures in
    let few = no_more c.loop-op.invariant c.in_ok-op.ensures.dropped in
    let before = length-map c.loop-op.replica.waiting stamped_of in
    let after = length-map c.commit_peer.new.self.waiting stamped_of in
    omega (arith, less, few, before, after)

pub returns-clause-drained : goal.returns-clause-drained
returns-clause-drained c =
    let w = dropping_on c.loop-op.invariant c.in_ok-op.ensures.dropped in
    let none : c.in_ok-op.field-0 ≡ None = search rules in
    let next : next_of (replica_of c.next_ready.new.self) ≡ None = search (rules, none, c.in_ok-op.ensures.next) in
    whole w c.document.ensures.running next

pub returns-clause-partly : goal.returns-clause-partly
returns-clause-partly c = let w = dropping_on c.loop-op.invariant c.in_ok-op.ensures.dropped in (w.turns, w.after)
