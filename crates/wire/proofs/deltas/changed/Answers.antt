use Rattle.std.proofs.Common.{◌≡◌, ◌≤◌, ◌++◌, ◌∷◌, ap, sym, ◌∙◌, subst, arith, append-nil, Ok, length, refl}
use Rattle.std.proofs.lemmas.Bool.{le-ltb}
use Rattle.semantics.specs.Ids.{OpId}
use Rattle.semantics.specs.Vectors.{IsCanonical, Vector}
use Rattle.wire.specs.Deltas.{changed, few_of}
use Rattle.wire.proofs.DeltaSteps.{canonical_changed}
use Rattle.wire.proofs.RisingVectors.{below_there, counted_there}
use Rattle.wire.proofs.deltas.changed.Goals as goal

few_is : (v : Vector) → length v ≤ 256 → few_of v ≡ Ok v
few_is v h = rw (le-ltb 256 (length v) h) refl

pub push-requires-clause-above : goal.push-requires-clause-above
push-requires-clause-above c =
    let v : Vector = c.loop-id.vector in
    let a : OpId = c.in-Some.id in
    let all : v ++ a ∷ c.next.new.self ≡ changed c.args.base.now c.args.changes.now =
    ap (λ (w : Vector). v ++ w) (sym c.in-Some.ensures.steps) ∙ c.loop-id.invariant.left in
    below_there v c.next.new.self a
    (subst IsCanonical (sym all) (canonical_changed c.args.base.now c.args.changes.now c.requires.base))

pub push-requires-clause-counted : goal.push-requires-clause-counted
push-requires-clause-counted c =
    let v : Vector = c.loop-id.vector in
    let a : OpId = c.in-Some.id in
    let all : v ++ a ∷ c.next.new.self ≡ changed c.args.base.now c.args.changes.now =
    ap (λ (w : Vector). v ++ w) (sym c.in-Some.ensures.steps) ∙ c.loop-id.invariant.left in
    let some = counted_there v c.next.new.self a
    (subst IsCanonical (sym all) (canonical_changed c.args.base.now c.args.changes.now c.requires.base)) in
    omega (arith, some)

pub returns : goal.returns
returns c =
    let v : Vector = c.loop-id.vector in
    let all : v ≡ changed c.args.base.now c.args.changes.now = sym (append-nil v)
    ∙ ap (λ (w : Vector). v ++ w) (sym c.in-None.ensures.steps.0) ∙ c.loop-id.invariant.left in
    ap few_of (sym all) ∙ few_is v c.loop-id.invariant.few
