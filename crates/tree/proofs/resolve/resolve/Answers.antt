use Rattle.std.proofs.Common.{◌≡◌, List, [], map, sym, ap, ◌∙◌, subst, Ok}
use Rattle.semantics.specs.DocumentAnswer.{lists_of}
use Rattle.semantics.specs.Elements.{At, Doc}
use Rattle.semantics.specs.Questions.{walk_from}
use Rattle.operation.specs.cursor.declared.hop.Hop.{Hop}
use Rattle.operation.specs.cursor.Places.{place_at}
use Rattle.operation.specs.cursor.Steps.{hop_of}
use Rattle.tree.specs.Nodes.{context}
use Rattle.tree.specs.Spots.{IsSpot}
use Rattle.tree.proofs.Walking.{if_ok, walked}
use Rattle.tree.proofs.resolve.resolve.Goals as goal

pub loop-step-init : goal.loop-step-init
loop-step-init c =
    let ns = c.args.nodes.now in
    let lists = lists_of (context ns) in
    let spot = c.root-spot.result in
    let root : place_at (map hop_of c.in_ok-hops.hops.items) spot.is_head ≡ At Doc =
    ap (λ (hops : List Hop). place_at (map hop_of hops) spot.is_head) c.in_ok-hops.ensures.items
    ∙ ap (place_at []) (c.root-spot.ensures ns).head in
    record {
      spot = subst (IsSpot ns spot) (sym root) (c.root-spot.ensures ns);
      rest = ap (λ xs. walk_from lists xs (Ok (place_at (map hop_of c.in_ok-hops.hops.items) spot.is_head))) c.steps-steps.ensures
          ∙ ap (λ p. walk_from lists c.args.expression.now (Ok p)) root;
    }

pub returns-clause-place : goal.returns-clause-place
returns-clause-place c =
    let spot = c.loop-step.spot in
    let lists = lists_of (context c.args.nodes.now) in
    if_ok c.new.result
    (c.new.ensures
    ∙ walked lists c.steps-steps.result.now c.loop-step.step-index (map hop_of c.loop-step.hops.items) spot.is_head c.loop-step-test.false
    c.loop-step.invariant.spot.short
    ∙ c.loop-step.invariant.rest)
