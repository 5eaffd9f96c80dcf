use Rattle.std.proofs.Common.{◌≡◌, ◌<◌, ◌+◌, ℕ, suc, List, [], ◌∷◌, ◌++◌, length, drop, drop-cons}
use Rattle.std.proofs.Common.{Result, Ok, Err, refl, sym, ap, ◌∙◌, subst, append_assoc, add-one, arith}
use Rattle.std.proofs.lemmas.List.{length-append}
use Rattle.std.proofs.lemmas.Bool.{lt-ltb}
use Rattle.ids.specs.declared.refusal.Refusal.{Refusal}
use Rattle.ids.specs.Vectors.{AreBelow}
use Rattle.ids.proofs.SearchedVectors.{below_behind, below_more}
use Rattle.semantics.specs.Ids.{OpId}
use Rattle.semantics.specs.Vectors.{Vector}
use Rattle.serde_json.specs.declared.value.Value.{Value}
use Rattle.serde_json.specs.View.{view, items_view}
use Rattle.wire.specs.Forms.{and_then}
use Rattle.wire.specs.Vectors.{next_of, pair_form, pairs_above}
use Rattle.wire.proofs.vectors.pairs_in.Goals as goal

-- nothing comes before
none_before : (r : Result Vector Refusal) → and_then (λ v. Ok ([] ++ v)) r ≡ r
none_before (Ok v) = refl
none_before (Err why) = refl

-- one more pair
after_pair : (done : Vector) (a : OpId) (last : ℕ) (x : Value) (xs : List Value) → pair_form (view x) ≡ Ok a
    → next_of last a ≡ Ok a
    → and_then (λ v. Ok (done ++ v)) (pairs_above last (items_view (x ∷ xs)))
    ≡ and_then (λ v. Ok ((done ++ a ∷ []) ++ v)) (pairs_above a.replica (items_view xs))
after_pair done a last x xs e n = rw (e, n) (joined (pairs_above a.replica (items_view xs)))
  where
    joined : (r : Result Vector Refusal)
        → and_then (λ v. Ok (done ++ v)) (and_then (λ v. Ok (a ∷ v)) r) ≡ and_then (λ v. Ok ((done ++ a ∷ []) ++ v)) r
    joined (Ok v) = simp append_assoc
    joined (Err why) = refl

pub loop-pair-init : goal.loop-pair-init
loop-pair-init c =
    let none : c.in_ok-vector.vector ≡ [] = c.in_ok-vector.ensures in
    record {
      below = subst (AreBelow 1) (sym none) tt;
      count = ap length none;
      left = ap (λ (done : Vector). and_then (λ v. Ok (done ++ v)) (pairs_above 0 (items_view c.args.pairs.now))) none
          ∙ none_before (pairs_above 0 (items_view c.args.pairs.now));
    }

pub push-requires-clause-above : goal.push-requires-clause-above
push-requires-clause-above c =
    let last : ℕ = c.loop-pair.last in
    let id = c.in_ok-id.id in
    let above : last < id.replica = omega (arith, c.if-replica-last.false, c.number-replica.ensures.number) in
    below_more (suc last) id.replica c.loop-pair.vector c.loop-pair.invariant.below (omega (arith, above))

pub push-requires-clause-room : goal.push-requires-clause-room
push-requires-clause-room c = omega (arith, c.loop-pair.invariant.count, c.loop-pair-test.true, c.requires)

-- one more pair, above those before it, and the rest is read after them
pub loop-pair-preserved : goal.loop-pair-preserved
loop-pair-preserved c =
    let v : Vector = c.loop-pair.vector in
    let id : OpId = c.in_ok-id.id in
    let xs = c.args.pairs.now in
    let n : ℕ = c.loop-pair.pair-index in
    let last : ℕ = c.loop-pair.last in
    let above : last < id.replica = omega (arith, c.if-replica-last.false, c.number-replica.ensures.number) in
    let next : next_of last id ≡ Ok id = rw (lt-ltb last id.replica above) refl in
    let same : c.number-replica.result ≡ id.replica = c.number-replica.ensures.number in
    let pushed : c.push.new.self ≡ v ++ id ∷ [] = c.in_ok-push.ensures in
    let rest : drop n xs ≡ c.pair-item.result ∷ drop (n + 1) xs = drop-cons xs n c.pair-item.result c.loop-pair-test.true
    ∙ (λ i. sym c.pair-item.is i ∷ drop (sym (add-one n) i) xs) in
    let all : AreBelow (suc id.replica) (v ++ id ∷ []) = below_behind (suc id.replica) v id
    (below_more (suc last) (suc id.replica) v c.loop-pair.invariant.below (omega (arith, above))) (omega arith) in
    record {
      below = subst (λ (w : Vector). AreBelow (suc c.number-replica.result) w) (sym pushed)
          (subst (λ r. AreBelow (suc r) (v ++ id ∷ [])) (sym same) all);
      count = ap length pushed ∙ length-append v (id ∷ []) ∙ ap (λ k. k + 1) c.loop-pair.invariant.count;
      left =
          (λ i. and_then (λ w. Ok (pushed i ++ w)) (pairs_above (same i) (items_view (drop (n + 1) xs))))
          ∙ sym (after_pair v id last c.pair-item.result (drop (n + 1) xs) (sym c.in_ok-id.ensures.form) next)
          ∙ ap (λ ys. and_then (λ w. Ok (v ++ w)) (pairs_above last (items_view ys))) (sym rest)
          ∙ c.loop-pair.invariant.left;
    }
