use Rattle.std.proofs.Common.{rules, ◌≡◌, ◌+◌, ◌<◌, ◌≤◌, ◌∷◌, ◌++◌, [], ℕ, List, length, get_or, map, take}
use Rattle.std.proofs.Common.{drop, drop-cons, append_assoc, sym, ap, ◌∙◌, subst, add-one, arith}
use Rattle.std.proofs.lemmas.List.{length-map, map-append}
use Rattle.semantics.specs.World.{World, WorldStep as TheStep, replies_of, world_after, world_step}
use Rattle.semantics.specs.Engine.{StepReply}
use Rattle.world.specs.declared.step.WorldStep.{WorldStep}
use Rattle.world.specs.declared.step.WorldReply.{WorldReply}
use Rattle.world.specs.Engines.{message_of}
use Rattle.world.specs.Acts.{step_of, step_reply_of}
use Rattle.world.specs.Worlds.{StopsInStep, world}
use Rattle.world.proofs.SingleSteps.{read_mapped}
use Rattle.world.proofs.ReachedWorlds.{reached_after}
use Rattle.world.proofs.StoppedWorlds.{stops_at_once, stops_whole, stops_within}
use Rattle.world.proofs.TurnedWorlds.{after_next}
use Rattle.world.proofs.Results.{on_err}
use Rattle.world.proofs.world.run_all.Goals as goal

-- one more step after these
one_more : (W U V : World) (steps : List WorldStep) (n : ℕ) (o : WorldStep) → n < length steps → o ≡ get_or steps n o
    → U ≡ world_after W (take n (map step_of steps))
    → V ≡ (world_step U (step_of o)).world
    → V ≡ world_after W (take (n + 1) (map step_of steps))
one_more W U V steps n o inside read so_far is =
    let f : WorldStep → TheStep = step_of in
    is
    ∙ (λ i. (world_step (so_far i) (step_of o)).world)
    ∙ sym (after_next W (map f steps) n (f o) (read_mapped f steps n o inside read))
    ∙ ap (λ m. world_after W (take m (map f steps))) (sym (add-one n))

pub turn-requires : goal.turn-requires
turn-requires c =
    let W : World = world c.args.engines.now.items (map message_of c.args.messages.now.items) in
    let U : World = world c.loop-step.engines.items (map message_of c.loop-step.messages.items) in
    let done : List TheStep = take c.loop-step.step-index (map step_of c.args.steps.now) in
    reached_after W U done c.requires.reached c.loop-step.invariant.so_far

pub returns-in_err-replies-clause-stopped : goal.returns-in_err-replies-clause-stopped
returns-in_err-replies-clause-stopped c =
    let W : World = world c.args.engines.now.items (map message_of c.args.messages.now.items) in
    let steps : List TheStep = map step_of c.args.steps.now in
    on_err c.from_residual.result (subst (λ k. StopsInStep W steps k W) (sym c.requires.none) (stops_at_once W steps c.requires.reached))

pub returns-in_err-reply-clause-stopped : goal.returns-in_err-reply-clause-stopped
returns-in_err-reply-clause-stopped c =
    let W : World = world c.args.engines.now.items (map message_of c.args.messages.now.items) in
    let U : World = world c.loop-step.engines.items (map message_of c.loop-step.messages.items) in
    let V : World = world c.turn.new.engines.items (map message_of c.turn.new.messages.items) in
    let f : WorldStep → TheStep = step_of in
    let steps : List WorldStep = c.args.steps.now in
    let n : ℕ = c.loop-step.step-index in
    let o = c.step-item.result in
    on_err c.from_residual-in_err-reply.result
    (subst (λ k. StopsInStep W (map f steps) k V) (sym c.loop-step.invariant.whole)
    (stops_within W U V (map f steps) n (f o) c.requires.reached (read_mapped f steps n o c.loop-step-test.true c.step-item.is)
    c.loop-step.invariant.so_far c.in_err-reply.ensures.messages
    c.in_err-reply.ensures.stopped))

pub returns-in_err-push-clause-stopped : goal.returns-in_err-push-clause-stopped
returns-in_err-push-clause-stopped c =
    let W : World = world c.args.engines.now.items (map message_of c.args.messages.now.items) in
    let U : World = world c.loop-step.engines.items (map message_of c.loop-step.messages.items) in
    let V : World = world c.turn.new.engines.items (map message_of c.turn.new.messages.items) in
    let f : WorldStep → TheStep = step_of in
    let steps : List WorldStep = c.args.steps.now in
    let n : ℕ = c.loop-step.step-index in
    let l : n + 1 ≤ length (map f steps) = omega (arith, length-map steps f, c.loop-step-test.true) in
    on_err c.from_residual-in_err-push.result
    (subst (λ k. StopsInStep W (map f steps) (k + 1) V) (sym c.loop-step.invariant.whole)
    (stops_whole W V (map f steps) (n + 1) c.requires.reached l
    (one_more W U V steps n c.step-item.result c.loop-step-test.true c.step-item.is
    c.loop-step.invariant.so_far c.in_ok-reply.ensures.world)))

-- one more whole step was done: the world is what all steps up to here lead to, and the replies are theirs
pub loop-step-preserved : goal.loop-step-preserved
loop-step-preserved c =
    let W : World = world c.args.engines.now.items (map message_of c.args.messages.now.items) in
    let U : World = world c.loop-step.engines.items (map message_of c.loop-step.messages.items) in
    let V : World = world c.turn.new.engines.items (map message_of c.turn.new.messages.items) in
    let steps : List WorldStep = c.args.steps.now in
    let n : ℕ = c.loop-step.step-index in
    let o = c.step-item.result in
    let f : WorldStep → TheStep = step_of in
    let rest : List TheStep = map f (drop (n + 1) steps) in
    let next : drop n steps ≡ o ∷ drop (n + 1) steps = drop-cons steps n o c.loop-step-test.true
    ∙ (λ i. sym c.step-item.is i ∷ drop (sym (add-one n) i) steps) in
    let R : List WorldReply = c.loop-step.replies.items in
    let r : WorldReply = c.in_ok-reply.reply in
    let pushed : c.push.new.self.items ≡ R ++ r ∷ [] = search rules in
    let moved : V ≡ (world_step U (f o)).world = c.in_ok-reply.ensures.world in
    let replied : step_reply_of r ≡ (world_step U (f o)).reply = c.in_ok-reply.ensures.reply in
    let replies_are =
    ap (λ (rs : List WorldReply). map step_reply_of rs ++ replies_of V rest) pushed
    ∙ ap (λ (xs : List StepReply). xs ++ replies_of V rest) (map-append step_reply_of R (r ∷ []))
    ∙ append_assoc (map step_reply_of R) (step_reply_of r ∷ []) (replies_of V rest)
    ∙ (λ i. map step_reply_of R ++ replied i ∷ replies_of (moved i) rest)
    ∙ ap (λ (xs : List WorldStep). map step_reply_of R ++ replies_of U (map f xs)) (sym next)
    ∙ c.loop-step.invariant.replies in
    let world_is =
    ap (λ (X : World). world_after X rest) moved
    ∙ ap (λ (xs : List WorldStep). world_after U (map f xs)) (sym next)
    ∙ c.loop-step.invariant.world in
    record {
      replies = replies_are;
      so_far = one_more W U V steps n o c.loop-step-test.true c.step-item.is c.loop-step.invariant.so_far c.in_ok-reply.ensures.world;
      world = world_is;
      whole = search rules;
    }
