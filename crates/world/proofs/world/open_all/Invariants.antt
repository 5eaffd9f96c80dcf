use Rattle.std.proofs.Common.{◌≡◌, ◌++◌, true, map, drop}
use Rattle.std.specs.List.{list_all}
use Rattle.ids.specs.Configurations.{is_within_limits}
use Rattle.semantics.specs.World.{opened_engine}
use Rattle.world.proofs.world.open_all.Given as goal

abbrev pub invariant-loop-config : goal.invariant-loop-config
invariant-loop-config l = record {
  engines : l.engines.items ++ map opened_engine (drop l.config-index l.configs) ≡ map opened_engine l.configs;
  within : list_all is_within_limits (drop l.config-index l.configs) ≡ true;
}
