use Rattle.std.proofs.Common.{◌≡◌, ◌≢◌, ◌<◌, ◌+◌, ℕ, suc, [], ◌∷◌, ◌++◌, drop, drop-cons, Ok, sym, ap, ◌∙◌, subst, add-one, arith}
use Rattle.std.proofs.lemmas.Bool.{eqb-false}
use Rattle.ids.specs.Vectors.{AreBelow}
use Rattle.ids.proofs.SearchedVectors.{below_behind, below_more}
use Rattle.semantics.specs.Ids.{OpId}
use Rattle.semantics.specs.Vectors.{Vector, at}
use Rattle.serde_json.specs.View.{items_view}
use Rattle.wire.specs.Deltas.{IsRising, changes_above}
use Rattle.wire.specs.Forms.{and_then}
use Rattle.wire.proofs.RisingVectors.{after_change, next_change, rising_behind}
use Rattle.wire.proofs.changes.changes_in.Goals as goal

-- one more change, above those before it, and the rest is read after them
pub loop-pair-preserved : goal.loop-pair-preserved
loop-pair-preserved c =
    let base : Vector = c.args.base.now in
    let v : Vector = c.loop-pair.changes.items in
    let a : OpId = c.in_ok-change.change in
    let xs = c.args.pairs.now in
    let n : ℕ = c.loop-pair.pair-index in
    let last : ℕ = c.loop-pair.last in
    let same : c.number-replica.result ≡ a.replica = c.number-replica.ensures.number in
    let above : last < a.replica = omega (arith, c.if-replica-last.false, same) in
    let other : at base a.replica ≢ a.counter = eqb-false (at base a.replica) a.counter (sym c.is_in.ensures ∙ c.if-is_in.false) in
    let pushed : c.push.new.self.items ≡ v ++ a ∷ [] = c.in_ok-push.ensures.items in
    let rest : drop n xs ≡ c.pair-item.result ∷ drop (n + 1) xs = drop-cons xs n c.pair-item.result c.loop-pair-test.true
    ∙ (λ i. sym c.pair-item.is i ∷ drop (sym (add-one n) i) xs) in
    let all : AreBelow (suc a.replica) (v ++ a ∷ []) = below_behind (suc a.replica) v a
    (below_more (suc last) (suc a.replica) v c.loop-pair.invariant.below (omega (arith, above))) (omega arith) in
    record {
      rising = subst IsRising (sym pushed)
          (rising_behind v a c.loop-pair.invariant.rising (below_more (suc last) a.replica v c.loop-pair.invariant.below above));
      below = subst (λ (w : Vector). AreBelow (suc c.number-replica.result) w) (sym pushed)
          (subst (λ r. AreBelow (suc r) (v ++ a ∷ [])) (sym same) all);
      left =
          (λ i. and_then (λ w. Ok (pushed i ++ w)) (changes_above base (same i) (items_view (drop (n + 1) xs))))
          ∙ sym (after_change base v a last c.pair-item.result (drop (n + 1) xs) (sym c.in_ok-change.ensures)
          (next_change base last a above other))
          ∙ ap (λ ys. and_then (λ w. Ok (v ++ w)) (changes_above base last (items_view ys))) (sym rest)
          ∙ c.loop-pair.invariant.left;
    }
