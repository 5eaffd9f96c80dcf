use Rattle.std.proofs.Common.{◌≡◌, ◌+◌, ◌-◌, [], length, map, sym, ap, ◌∙◌, subst, arith, eqb-true}
use Rattle.std.proofs.lemmas.List.{nil_from_length}
use Rattle.semantics.specs.Engine.{Engine}
use Rattle.semantics.specs.WriteSteps.{take_for, take_submission}
use Rattle.replica.specs.operation.Submissions.{submitted_of}
use Rattle.world.specs.Engines.{IsReachedEngine}
use Rattle.world.proofs.ReachedWorlds.{reached_take}
use Rattle.world.specs.Parts.{TakesInPart}
use Rattle.world.proofs.BetweenEngines.{takes_then}
use Rattle.world.proofs.WholeSteps.{take_next, take_none}
use Rattle.world.proofs.Results.{on_err}
use Rattle.world.proofs.engine.Engine.take_all.Goals as goal

pub returns-then-is_empty-clause-engine : goal.returns-then-is_empty-clause-engine
returns-then-is_empty-clause-engine c =
    let E : Engine = c.loop.self in
    let q = c.self-in-loop.inside.queue in
    let none : length q.items ≡ 0 = (let e = eqb-true _ _ (sym c.is_empty.ensures ∙ c.if-is_empty.true) in omega (arith, e)) in
    let empty : E.queue ≡ [] = ap (λ (F : Engine). F.queue) (sym c.self-in-loop.view_is)
    ∙ ap (map submitted_of) (nil_from_length q.items none) in
    sym (take_none (c.args.self.now.batch - c.loop.counter) E empty) ∙ c.loop.invariant.taken

pub returns-in_err-take-clause-stopped : goal.returns-in_err-take-clause-stopped
returns-in_err-take-clause-stopped c =
    let S : Engine = c.args.self.now in
    let batch : c.self.inside.batch ≡ S.batch = ap (λ (F : Engine). F.batch) c.self.view_is in
    let part : TakesInPart (take_for c.loop.counter S) c.take.new.self = subst
    (λ E. TakesInPart E c.take.new.self) c.loop.invariant.so_far c.in_err-take.ensures.stopped in
    on_err c.from_residual.result (c.loop.counter, omega (arith, batch, c.loop-test.true), part)

pub loop-preserved : goal.loop-preserved
loop-preserved c =
    let E : Engine = c.loop.self in
    let batch : c.self.inside.batch ≡ c.args.self.now.batch = ap (λ (F : Engine). F.batch) c.self.view_is in
    let next : c.take.new.self ≡ (take_submission E).engine = c.in_ok-take.ensures.engine in
    record {
      taken =
          ap (λ (F : Engine). take_for (c.args.self.now.batch - (c.loop.counter + 1)) F) next
          ∙ take_next c.args.self.now.batch c.loop.counter E (omega (arith, batch, c.loop-test.true))
          ∙ c.loop.invariant.taken;
      so_far = next ∙ ap (λ (F : Engine). (take_submission F).engine) c.loop.invariant.so_far
          ∙ sym (takes_then c.loop.counter 1 c.args.self.now);
      reached = subst IsReachedEngine (sym next) (reached_take E c.loop.invariant.reached);
    }
