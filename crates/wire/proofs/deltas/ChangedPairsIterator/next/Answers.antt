use Rattle.std.proofs.Common.{◌≡◌, ◌<◌, ◌≤◌, ◌∷◌, sym, ◌∙◌, subst, arith}
use Rattle.semantics.specs.Ids.{OpId}
use Rattle.semantics.specs.Vectors.{IsCanonical, Vector}
use Rattle.wire.specs.Deltas.{IsRising, behind, changed}
use Rattle.wire.proofs.DeltaSteps.{above_more, canonical_behind, changed_behind, changed_past, named-some, named-zero}
use Rattle.wire.proofs.FirstOfLeft.{progress}
use Rattle.wire.proofs.deltas.ChangedPairsIterator.next.Goals as goal

-- a pair of the base below the next change
pub returns-in-Some-split_below-clause-steps : goal.returns-in-Some-split_below-clause-steps
returns-in-Some-split_below-clause-steps c =
    let b : OpId = c.in-Some-split_below.before.now in
    let a : OpId = c.in-Some.change.now in
    let rest : Vector = c.in-Some-split_below.rest.now in
    let others : Vector = c.in-Some.others.now in
    let base : c.loop-change.self-inside.base.now ≡ b ∷ rest = c.in-Some-split_below.ensures.0 in
    let changes : c.loop-change.self-inside.changes.now ≡ a ∷ others = c.in-Some.ensures.cases.0 in
    let l : b.replica < a.replica = c.in-Some-split_below.ensures.1 in
    let rises = subst IsRising changes c.loop-change.invariant.changes in
    sym c.loop-change.invariant.left ∙ (λ i. changed (base i) (changes i))
    ∙ changed_past b rest (a ∷ others) (l, above_more b.replica a.replica others (omega (arith, l)) rises.0)
    ∙ (λ i. b ∷ changed rest (sym changes i))

pub returns-in-Some-split_below-clause-goes : goal.returns-in-Some-split_below-clause-goes
returns-in-Some-split_below-clause-goes c = progress _ _ _ (returns-in-Some-split_below-clause-steps c)

-- the change itself
pub returns-then-change-gt0-clause-steps : goal.returns-then-change-gt0-clause-steps
returns-then-change-gt0-clause-steps c =
    let a : OpId = c.in-Some.change.now in
    let base : Vector = c.loop-change.self-inside.base.now in
    let others : Vector = c.in-Some.others.now in
    let changes : c.loop-change.self-inside.changes.now ≡ a ∷ others = c.in-Some.ensures.cases.0 in
    let rises = subst IsRising changes c.loop-change.invariant.changes in
    let left : Vector = changed (behind a.replica base) others in
    sym c.loop-change.invariant.left ∙ (λ i. changed base (changes i))
    ∙ changed_behind a base others c.loop-change.invariant.base c.in_default-split_below.ensures rises.0
    ∙ named-some a left (let some : 0 < a.counter = c.if-change-gt0.true in λ e. omega (arith, some, e))
    ∙ (λ i. a ∷ changed (sym c.behind-self-inside.ensures i) others)

pub returns-then-change-gt0-clause-goes : goal.returns-then-change-gt0-clause-goes
returns-then-change-gt0-clause-goes c = progress _ _ _ (returns-then-change-gt0-clause-steps c)

-- a replica that isn't named any more
pub loop-change-preserved : goal.loop-change-preserved
loop-change-preserved c =
    let a : OpId = c.in-Some.change.now in
    let base : Vector = c.loop-change.self-inside.base.now in
    let others : Vector = c.in-Some.others.now in
    let changes : c.loop-change.self-inside.changes.now ≡ a ∷ others = c.in-Some.ensures.cases.0 in
    let rises = subst IsRising changes c.loop-change.invariant.changes in
    let left : Vector = changed (behind a.replica base) others in
    let none : a.counter ≤ 0 = c.if-change-gt0.false in
    record {
      base = subst IsCanonical (sym c.behind-self-inside.ensures) (canonical_behind a.replica base c.loop-change.invariant.base);
      changes = rises.1;
      left =
          (λ i. changed (c.behind-self-inside.ensures i) others)
          ∙ sym (named-zero a left (omega (arith, none)))
          ∙ sym (changed_behind a base others c.loop-change.invariant.base c.in_default-split_below.ensures rises.0)
          ∙ (λ i. changed base (sym changes i))
          ∙ c.loop-change.invariant.left;
    }
