use Rattle.std.proofs.Common.{◌≡◌, ◌+◌, ℕ, List, min, map, subst}
use Rattle.semantics.specs.World.{World, WorldStep as TheStep}
use Rattle.world.specs.Engines.{message_of}
use Rattle.world.specs.Acts.{step_of}
use Rattle.world.specs.Polls.{AllPollTruly}
use Rattle.world.specs.Worlds.{Running, StopsInStep, world, world_of}
use Rattle.world.specs.contracts.world.World.{the_view}
use Rattle.world.proofs.ReachedWorlds.{reached_after}
use Rattle.world.proofs.Results.{on_err}
use Rattle.world.proofs.TruePolls.{all_poll_truly}
use Rattle.world.proofs.world.World.run.Goals as goal

pub returns-in_err-replies-clause-stopped : goal.returns-in_err-replies-clause-stopped
returns-in_err-replies-clause-stopped c =
    let A : Running = the_view c.self.inside in
    let n : ℕ = c.run_all-outcome.new.whole in
    let V : World = world c.run_all-outcome.new.engines.items (map message_of c.run_all-outcome.new.messages.items) in
    let stopped : (n : ℕ) × (c.saturating_add-self-inside.result ≡ min (A.done + n) 18446744073709551615)
    × StopsInStep (world_of A) (map step_of c.args.steps.now) n V =
    (n, c.saturating_add-self-inside.ensures, c.in_err-replies.ensures.stopped) in
    on_err c.from_residual.result
    (λ running. subst
    (λ (B : Running). (n : ℕ) × (c.saturating_add-self-inside.result ≡ min (B.done + n) 18446744073709551615)
    × StopsInStep (world_of B) (map step_of c.args.steps.now) n V) c.self.view_is stopped)

pub invariant_of-self-2 : goal.invariant_of-self-2
invariant_of-self-2 c = λ running.
    (let W : World = world c.self.inside.engines.items (map message_of c.self.inside.messages.items) in
    let V : World = world c.run_all-outcome.new.engines.items (map message_of c.run_all-outcome.new.messages.items) in
    let steps : List TheStep = map step_of c.args.steps.now in
    reached_after W V steps (c.self.invariant c.if-self.false) c.in_ok-replies.ensures.world)

pub returns-clause-polls : goal.returns-clause-polls
returns-clause-polls c =
    let W : World = world c.self.inside.engines.items (map message_of c.self.inside.messages.items) in
    let steps : List TheStep = map step_of c.args.steps.now in
    subst (λ (B : Running). AllPollTruly (world_of B) steps) c.self.view_is
    (all_poll_truly W steps (c.self.invariant c.if-self.false))
