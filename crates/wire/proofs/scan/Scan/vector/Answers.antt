use Rattle.std.proofs.Common.{rules, ◌≡◌, ◌<◌, ℕ, suc, [], ◌∷◌, ◌++◌, sym, ap, subst, length, arith}
use Rattle.std.proofs.lemmas.List.{length-append}
use Rattle.ids.specs.Vectors.{AreBelow}
use Rattle.ids.proofs.SearchedVectors.{below_behind, below_more}
use Rattle.semantics.specs.Ids.{OpId}
use Rattle.semantics.specs.Vectors.{Vector}
use Rattle.wire.proofs.scan.Scan.vector.Goals as goal

pub push-requires-clause-above : goal.push-requires-clause-above
push-requires-clause-above c =
    let last : ℕ = c.loop.last in
    let id = c.in_ok-id.id in
    let above : last < id.replica = omega (arith, c.if-replica-last.false, c.number-replica.ensures.number) in
    below_more (suc last) id.replica c.loop.vector c.loop.invariant.below (omega (arith, above))

pub loop-preserved : goal.loop-preserved
loop-preserved c =
    let v : Vector = c.loop.vector in
    let id : OpId = c.in_ok-id.id in
    let replica : ℕ = c.number-replica.result in
    let is : replica ≡ id.replica = c.number-replica.ensures.number in
    let pushed : c.push.new.self ≡ v ++ id ∷ [] = search rules in
    let above : c.loop.last < replica = omega (arith, c.if-replica-last.false) in
    let below : AreBelow (suc replica) (v ++ id ∷ []) =
    below_behind (suc replica) v id
    (below_more (suc c.loop.last) (suc replica) v c.loop.invariant.below (omega (arith, above)))
    (omega (arith, is)) in
    let longer = length-append v (id ∷ []) in
    record {
      below = subst (AreBelow (suc replica)) (sym pushed) below;
      few = (let l = ap length pushed in omega (arith, l, longer, c.loop.invariant.few));
    }
