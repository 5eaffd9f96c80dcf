use Rattle.std.proofs.Common.{rules, ◌≡◌, ℕ, ◌+◌, Some, List, ◌∷◌, length, map, refl, sym, ap, ◌∙◌, subst, arith, add-one}
use Rattle.std.specs.Vec.Iter.{into_iter_items}
use Rattle.semantics.specs.LegalAnswer.{OfPeer}
use Rattle.semantics.specs.Engine.{Engine as TheEngine}
use Rattle.semantics.specs.WriteSteps.{push}
use Rattle.semantics.specs.PeerSteps.{submit_all, Receipt}
use Rattle.semantics.specs.WorldHistory.{HasGrown}
use Rattle.semantics.proofs.GrownEngines.{grown_refl, grown_trans}
use Rattle.semantics.proofs.SoundEngines.{IsSound}
use Rattle.semantics.proofs.SoundReceiving.{submitted_all}
use Rattle.semantics.proofs.SoundSubmitting.{pushed}
use Rattle.replica.specs.operation.declared.op.Op.{Op}
use Rattle.replica.specs.operation.Ops.{stamped_of}
use Rattle.world.specs.Engines.{taken_or_denied}
use Rattle.world.specs.Parts.{IsBetween}
use Rattle.world.proofs.DrawnWaiting.{submits_wait, waits_still}
use Rattle.world.proofs.ReachedWorlds.{reached_sound}
use Rattle.world.proofs.SubmittedRequests.{Keeps, found, push_keeps, denied_same, submit_more, submit_stop}
use Rattle.world.proofs.Results.{on_err}
use Rattle.world.proofs.engine.Engine.submit_all.Goals as goal

pub returns-in-Some-2-clause-submitted : goal.returns-in-Some-2-clause-submitted
returns-in-Some-2-clause-submitted c = λ bad.
    (let E : TheEngine = c.loop-op.self in
    let at = c.args.client in
    let n : ℕ = c.loop-op.submitted in
    let o : Op = c.in-Some.op in
    let rest = into_iter_items c.next.new.self in
    let steps : into_iter_items c.loop-op.op-iterator ≡ o ∷ rest = c.in-Some.ensures.steps.0 in
    let k = found E.clients at c.loop-op.invariant.there in
    let there = c.in_ok-why.ensures.reply k.0 k.1 ∙ ap (taken_or_denied (length k.0.cells + 1)) c.in-Some-2.is in
    let engine : c.submit.new.self ≡ E = c.in_ok-why.ensures.engine
    ∙ denied_same E at (OfPeer (stamped_of o)) c.in-Some-2.why there in
    sym (c.loop-op.invariant.left bad)
    ∙ ap (λ (os : List Op). submit_all at bad n E (map stamped_of os)) steps
    ∙ submit_stop at bad n E (stamped_of o) (map stamped_of rest) c.in-Some-2.why there
    ∙ (λ i. record { engine = sym engine i; submitted = n; stopped = Some (sym (add-one n) i, c.in-Some-2.why) }))

pub loop-op-init : goal.loop-op-init
loop-op-init c = record {
  whole = search rules;
  count = search rules;
  there = c.requires.there;
  left = λ bad. search rules;
  sound = reached_sound c.args.self.now c.requires.reached;
  still = refl;
  grown = grown_refl c.args.self.now;
}

pub returns-in_err-why-clause-stopped : goal.returns-in_err-why-clause-stopped
returns-in_err-why-clause-stopped c = on_err c.from_residual.result (λ bad.
    (let S : TheEngine = c.args.self.now in
    let E : TheEngine = c.loop-op.self in
    let at = c.args.client in
    let n : ℕ = c.loop-op.submitted in
    let rest = map stamped_of (into_iter_items c.loop-op.op-iterator) in
    let all = map stamped_of c.args.ops.items in
    let end : (submit_all at bad n E rest).engine
    ≡ (submit_all at bad 0 S all).engine = ap (λ (r : Receipt). r.engine) (c.loop-op.invariant.left bad) in
    let later = submitted_all at bad n E rest c.loop-op.invariant.sound in
    let between : IsBetween S E (submit_all at bad n E rest).engine = record {
      beyond = c.loop-op.invariant.grown;
      before = later.grown;
      waited = waits_still S E c.loop-op.invariant.still;
      waits = submits_wait at bad n E rest;
    } in
    subst (λ F. IsBetween S F (submit_all at bad 0 S all).engine) (sym c.in_err-why.ensures.unchanged) (subst (IsBetween S E) end between)))

-- one more operation was submitted: with the rest of the list the engine comes to what the whole list leads to
pub loop-op-preserved : goal.loop-op-preserved
loop-op-preserved c =
    let E : TheEngine = c.loop-op.self in
    let at = c.args.client in
    let n : ℕ = c.loop-op.submitted in
    let o : Op = c.in-Some.op in
    let rest = into_iter_items c.next.new.self in
    let steps : into_iter_items c.loop-op.op-iterator ≡ o ∷ rest = c.in-Some.ensures.steps.0 in
    let k = found E.clients at c.loop-op.invariant.there in
    let there = c.in_ok-why.ensures.reply k.0 k.1 ∙ ap (taken_or_denied (length k.0.cells + 1)) c.in_default.is in
    let next : c.submit.new.self ≡ (push E at (OfPeer (stamped_of o))).engine = c.in_ok-why.ensures.engine in
    let keeps : Keeps E c.submit.new.self = subst (Keeps E) (sym next) (push_keeps E at (OfPeer (stamped_of o))) in
    let there_next = keeps.clients in
    record {
      whole = search rules;
      count = (let l = ap (length {A = Op}) steps in omega (arith, l, c.loop-op.invariant.count));
      there = omega (arith, there_next, c.loop-op.invariant.there);
      sound = subst IsSound (sym next) (pushed E at (OfPeer (stamped_of o)) c.loop-op.invariant.sound).sound;
      still = keeps.replica ∙ c.loop-op.invariant.still;
      grown = grown_trans c.args.self.now E c.submit.new.self c.loop-op.invariant.grown
          (subst (HasGrown E) (sym next) (pushed E at (OfPeer (stamped_of o)) c.loop-op.invariant.sound).grown);
      left = λ bad.
          ((λ i. submit_all at bad (add-one n i) (next i) (map stamped_of rest))
          ∙ sym (submit_more at bad n E (stamped_of o) (map stamped_of rest) (length k.0.cells + 1) there)
          ∙ ap (λ (os : List Op). submit_all at bad n E (map stamped_of os)) (sym steps)
          ∙ c.loop-op.invariant.left bad);
    }
