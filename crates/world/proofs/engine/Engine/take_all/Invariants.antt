-- The takes that are left lead to where all takes lead.
use Rattle.std.proofs.Common.{◌≡◌, ◌-◌}
use Rattle.semantics.specs.WriteSteps.{take_for}
use Rattle.world.specs.Engines.{IsReachedEngine}
use Rattle.world.proofs.engine.Engine.take_all.Given as goal

abbrev pub invariant-loop : goal.invariant-loop
invariant-loop l = record {
  taken : take_for (l.fn.self.batch - l.counter) l.self ≡ take_for l.fn.self.batch l.fn.self;
  so_far : l.self ≡ take_for l.counter l.fn.self;
  reached : IsReachedEngine l.self;
}
