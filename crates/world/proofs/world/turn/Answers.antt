use Rattle.std.proofs.Common.{◌≡◌, List, Result, Ok, Err, Some, length, map, set, ◌++◌, refl, sym, ap, ◌∙◌, subst, arith, slice_get}
use Rattle.std.specs.Prelude.{OnOk, IfOk}
use Rattle.std.proofs.lemmas.Option.{slice_get_read}
use Rattle.semantics.specs.Engine.{Engine, Message, StepReply}
use Rattle.semantics.specs.World.{WorldOutcome, engine_step, sent_by, world_step}
use Rattle.world.specs.declared.step.WorldStep.{WorldStep}
use Rattle.world.specs.Acts.{act_of, step_of, step_reply_of}
use Rattle.world.specs.Parts.{IsInPart}
use Rattle.world.specs.Worlds.{world}
use Rattle.world.specs.Engines.{message_of}
use Rattle.world.proofs.ReachedWorlds.{reached_at}
use Rattle.world.proofs.TurnedWorlds.{world_step-there}
use Rattle.world.proofs.Results.{then_err}
use Rattle.world.proofs.world.turn.Goals as goal

-- the world after a step of an engine that exists in it as E
module _ (Es : List Engine) (ms : List Message) (s : WorldStep) (E : Engine) (at : slice_get Es s.engine ≡ Some E) where
  turned : world_step (world Es ms) (step_of s)
      ≡ record {
        world = world (set Es s.engine (engine_step ms (act_of s.act) E).engine) (ms ++ sent_by ms (act_of s.act) E);
        reply = (engine_step ms (act_of s.act) E).reply;
      }
  turned = world_step-there Es ms (step_of s) E at

  replied : (engine_step ms (act_of s.act) E).reply ≡ (world_step (world Es ms) (step_of s)).reply
  replied = sym (ap (λ (t : WorldOutcome). t.reply) turned)

pub turn-requires : goal.turn-requires
turn-requires c =
    let Es = c.args.engines.now.items in
    let E : Engine = c.index_mut-engine.result.now in
    let there = slice_get_read Es (length Es) c.args.step.now.engine E refl (omega arith) c.index_mut-engine.ensures.value in
    reached_at (world Es (map message_of c.args.messages.now.items)) c.requires c.args.step.now.engine E there

-- the engine that moves exists
there : (c : goal.After-engines-1) → slice_get c.args.engines.now.items c.args.step.now.engine ≡ Some c.index_mut-engine.result.now
there c =
    let Es = c.args.engines.now.items in
    slice_get_read Es (length Es) c.args.step.now.engine c.index_mut-engine.result.now refl (omega arith) c.index_mut-engine.ensures.value

-- both parts of an answer
both_ok : {X Y P Q R : Type 0} (r : Result X Y) → (P → Q → R) → OnOk r P → OnOk r Q → OnOk r R
both_ok (Ok x) f p q = f p q
both_ok (Err e) f p q = tt

pub returns-clause-world : goal.returns-clause-world
returns-clause-world c =
    let Es = c.args.engines.now.items in
    let ms : List Message = map message_of c.args.messages.now.items in
    let s = c.args.step.now in
    let E : Engine = c.index_mut-engine.result.now in
    both_ok c.turn.result
    (λ (e : c.turn.new.self ≡ (engine_step ms (act_of s.act) E).engine)
    (f : map message_of c.turn.new.messages.items ≡ ms ++ sent_by ms (act_of s.act) E).
    (λ t. world (set Es s.engine (e t)) (f t))
    ∙ sym (ap (λ (t : WorldOutcome). t.world) (turned Es ms s E (there c))))
    c.turn.ensures.engine c.turn.ensures.sent

pub returns-clause-reply : goal.returns-clause-reply
returns-clause-reply c =
    let Es = c.args.engines.now.items in
    let ms : List Message = map message_of c.args.messages.now.items in
    let s = c.args.step.now in
    let E : Engine = c.index_mut-engine.result.now in
    subst (λ (reply : StepReply). IfOk c.turn.result (λ r. step_reply_of r ≡ reply)) (replied Es ms s E (there c)) c.turn.ensures.reply

pub returns-clause-stopped : goal.returns-clause-stopped
returns-clause-stopped c =
    let Es : List Engine = c.args.engines.now.items in
    let ms : List Message = map message_of c.args.messages.now.items in
    let s = c.args.step.now in
    let E : Engine = c.index_mut-engine.result.now in
    let F : Engine = c.turn.new.self in
    then_err c.turn.result
    (λ (part : IsInPart ms (act_of s.act) E F). record {
      engine = E;
      part = F;
      there = there c;
      moved = refl;
      begun = part;
    })
    c.turn.ensures.stopped
