use Rattle.std.proofs.Common.{◌≡◌, ◌≢◌, ◌<◌, ◌≤◌, ◌∷◌, [], sym, ◌∙◌, subst, arith}
use Rattle.std.proofs.lemmas.List.{nil_from_length}
use Rattle.semantics.specs.Ids.{OpId}
use Rattle.semantics.specs.Vectors.{IsCanonical, Vector}
use Rattle.wire.specs.Deltas.{delta}
use Rattle.wire.proofs.DeltaSteps.{above_more, delta_before, delta_lost, delta_other, delta_same}
use Rattle.wire.proofs.FirstOfLeft.{below, not_below, progress}
use Rattle.wire.proofs.deltas.DifferencesIterator.next.Goals as goal

pub returns-then-lt-clause-steps : goal.returns-then-lt-clause-steps
returns-then-lt-clause-steps c =
    let b : OpId = c.in-Some-split_first.before.now in
    let a : OpId = c.in-Some.id.now in
    let rest : Vector = c.in-Some-split_first.rest.now in
    let others : Vector = c.in-Some.others.now in
    let base : c.loop-id.self-inside.base.now ≡ b ∷ rest = c.in-Some-split_first.ensures.cases.0 in
    let ids : c.loop-id.self-inside.ids.now ≡ a ∷ others = c.in-Some.ensures.cases.0 in
    let l : b.replica < a.replica = below b.replica a.replica (sym c.lt.ensures ∙ c.if-lt.true) in
    let base_rises = subst IsCanonical base c.loop-id.invariant.base in
    let rises = subst IsCanonical ids c.loop-id.invariant.ids in
    sym c.loop-id.invariant.left ∙ (λ i. delta (base i) (ids i))
    ∙ delta_lost b rest (a ∷ others) base_rises.1 (l, above_more b.replica a.replica others (omega (arith, l)) rises.1)
    ∙ (λ i. sym c.not_named.ensures i ∷ delta rest (sym ids i))

pub returns-then-lt-clause-goes : goal.returns-then-lt-clause-goes
returns-then-lt-clause-goes c = progress _ _ _ (returns-then-lt-clause-steps c)

pub returns-then-lt-2-clause-steps : goal.returns-then-lt-2-clause-steps
returns-then-lt-2-clause-steps c =
    let b : OpId = c.in-Some-split_first.before.now in
    let a : OpId = c.in-Some.id.now in
    let rest : Vector = c.in-Some-split_first.rest.now in
    let others : Vector = c.in-Some.others.now in
    let base : c.loop-id.self-inside.base.now ≡ b ∷ rest = c.in-Some-split_first.ensures.cases.0 in
    let ids : c.loop-id.self-inside.ids.now ≡ a ∷ others = c.in-Some.ensures.cases.0 in
    let l : a.replica < b.replica = below a.replica b.replica (sym c.lt-in-Some.ensures ∙ c.if-lt-2.true) in
    let base_rises = subst IsCanonical base c.loop-id.invariant.base in
    sym c.loop-id.invariant.left ∙ (λ i. delta (base i) (ids i))
    ∙ delta_before a (b ∷ rest) others (l, above_more a.replica b.replica rest (omega (arith, l)) base_rises.1)
    ∙ (λ i. a ∷ delta (sym base i) others)

pub returns-then-lt-2-clause-goes : goal.returns-then-lt-2-clause-goes
returns-then-lt-2-clause-goes c = progress _ _ _ (returns-then-lt-2-clause-steps c)

pub returns-then-id-before-clause-steps : goal.returns-then-id-before-clause-steps
returns-then-id-before-clause-steps c =
    let b : OpId = c.in-Some-split_first.before.now in
    let a : OpId = c.in-Some.id.now in
    let rest : Vector = c.in-Some-split_first.rest.now in
    let others : Vector = c.in-Some.others.now in
    let base : c.loop-id.self-inside.base.now ≡ b ∷ rest = c.in-Some-split_first.ensures.cases.0 in
    let ids : c.loop-id.self-inside.ids.now ≡ a ∷ others = c.in-Some.ensures.cases.0 in
    let le : a.replica ≤ b.replica = not_below b.replica a.replica (sym c.lt.ensures ∙ c.if-lt.false) in
    let ge : b.replica ≤ a.replica = not_below a.replica b.replica (sym c.lt-in-Some.ensures ∙ c.if-lt-2.false) in
    let other : a.counter ≢ b.counter = c.if-id-before.true in
    let base_rises = subst IsCanonical base c.loop-id.invariant.base in
    sym c.loop-id.invariant.left ∙ (λ i. delta (base i) (ids i))
    ∙ delta_other a b rest others (omega (arith, le, ge)) other base_rises.1

pub returns-then-id-before-clause-goes : goal.returns-then-id-before-clause-goes
returns-then-id-before-clause-goes c = progress _ _ _ (returns-then-id-before-clause-steps c)

-- both have the pair
pub loop-id-preserved : goal.loop-id-preserved
loop-id-preserved c =
    let b : OpId = c.in-Some-split_first.before.now in
    let a : OpId = c.in-Some.id.now in
    let rest : Vector = c.in-Some-split_first.rest.now in
    let others : Vector = c.in-Some.others.now in
    let base : c.loop-id.self-inside.base.now ≡ b ∷ rest = c.in-Some-split_first.ensures.cases.0 in
    let ids : c.loop-id.self-inside.ids.now ≡ a ∷ others = c.in-Some.ensures.cases.0 in
    let le : a.replica ≤ b.replica = not_below b.replica a.replica (sym c.lt.ensures ∙ c.if-lt.false) in
    let ge : b.replica ≤ a.replica = not_below a.replica b.replica (sym c.lt-in-Some.ensures ∙ c.if-lt-2.false) in
    let same : a.counter ≡ b.counter = c.if-id-before.false in
    let base_rises = subst IsCanonical base c.loop-id.invariant.base in
    let rises = subst IsCanonical ids c.loop-id.invariant.ids in
    record {
      base = base_rises.2;
      ids = rises.2;
      left = sym (delta_same a b rest others (omega (arith, le, ge)) same base_rises.1) ∙ (λ i. delta (sym base i) (sym ids i))
          ∙ c.loop-id.invariant.left;
    }

pub returns-clause-steps : goal.returns-clause-steps
returns-clause-steps c =
    let b : OpId = c.in_ok-before.before.now in
    let rest : Vector = c.in_ok-before.rest.now in
    let base : c.loop-id.self-inside.base.now ≡ b ∷ rest = c.in_ok-before.ensures.cases.0 in
    let ids : c.loop-id.self-inside.ids.now ≡ [] = nil_from_length _ c.in_default.ensures.cases in
    let base_rises = subst IsCanonical base c.loop-id.invariant.base in
    sym c.loop-id.invariant.left ∙ (λ i. delta (base i) (ids i))
    ∙ delta_lost b rest [] base_rises.1 tt
    ∙ (λ i. sym c.not_named-2.ensures i ∷ delta rest (sym ids i))

pub returns-clause-goes : goal.returns-clause-goes
returns-clause-goes c = progress _ _ _ (returns-clause-steps c)
