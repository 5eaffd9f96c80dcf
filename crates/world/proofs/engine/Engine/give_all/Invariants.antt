-- The gives that are left lead to where all gives lead.
use Rattle.std.proofs.Common.{◌≡◌, ◌-◌}
use Rattle.semantics.specs.WriteSteps.{give_for}
use Rattle.world.proofs.engine.Engine.give_all.Given as goal

abbrev pub invariant-loop : goal.invariant-loop
invariant-loop l = give_for (l.fn.count - l.counter) l.self ≡ give_for l.fn.count l.fn.self
